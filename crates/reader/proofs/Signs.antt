-- Whole numbers that 64 bits hold, as the machine compares them.
use Rattle.std.proofs.Common.{◌≡◌, suc, ◌-◌, ◌^◌, eqb, ℤ, pos, negsuc, sym, refl, ◌∙◌, arith, w64, SFits, of_z, eq-eqb, ne_eqb}
use native.Mathlib.Decide.{ℕ_discrete}
use Rattle.bits.specs.Whole.{same_z}

-- two of them have the same bits where they are the same
pub same_bits : (a b : ℤ) → SFits w64 a → SFits w64 b → eqb (of_z w64 a) (of_z w64 b) ≡ same_z a b
unfolding same_z
same_bits (pos a) (pos b) f g = refl
same_bits (pos a) (negsuc b) f g = ne_eqb a (2 ^ 64 - suc b) (λ e. omega (arith, f.sfits, g.sfits))
same_bits (negsuc a) (pos b) f g = ne_eqb (2 ^ 64 - suc a) b (λ e. omega (arith, f.sfits, g.sfits))
same_bits (negsuc a) (negsuc b) f g = go (ℕ_discrete a b)
  where
    go : Dec (a ≡ b) → eqb (2 ^ 64 - suc a) (2 ^ 64 - suc b) ≡ eqb a b
    go (yes e) = rw e (eq-eqb (2 ^ 64 - suc b) (2 ^ 64 - suc b) refl ∙ sym (eq-eqb b b refl))
    go (no n) = ne_eqb (2 ^ 64 - suc a) (2 ^ 64 - suc b) (λ e. n (omega (arith, f.sfits, g.sfits))) ∙ sym (ne_eqb a b n)

-- A node that reads with zero errors has code ok.
use Prim.Native.Nat.{ℕ, zero, suc, ◌+◌, ◌-◌, max}
use mathlib.Core.Bool.{cond}
use mathlib.Core.List.{List, ◌∷◌}
use mathlib.Core.Path.{◌≡◌, refl}
use native.Mathlib.Omega.{arith}
use lib.Dec.{eqb, leb}
use lib.IntN.{ℤ, pos}
use Rattle.bits.specs.Bits.{total}
use Rattle.description.specs.Trees.{Tree, unit, bottom, bits, signed, then, bind, either, both, where', sequence, compute, absorb, scan}
use Rattle.description.proofs.Choice.{by_test, by_search}
use Rattle.rules.specs.Entries.{Reading, reading, any, ok, fail}
use Rattle.rules.specs.Reading.{code_for, two_sides, read_bits, read}
use Rattle.rules.specs.Tries.{first_start}
use Rattle.rules.proofs.Errors.{code-none}

-- No errors at all.
pub any-clean : (e : ℕ) → any e ≡ 0 → e ≡ 0
unfolding any
any-clean zero h = refl
any-clean (suc e) h = absurd (omega arith)

pub sides_clean : (a b : ℕ) → any a + any b ≡ 0 → (a ≡ 0) × (b ≡ 0)
sides_clean a b h = (any-clean a (omega arith), any-clean b (omega arith))

abbrev CleanOk : Reading → Type 0
CleanOk r = r.errors ≡ 0 → r.code ≡ ok

-- the larger of two codes
sides_ok : (a b : Reading) → CleanOk a → CleanOk b → any a.errors + any b.errors ≡ 0 → max a.code b.code ≡ ok
sides_ok a b f g h =
    let c = sides_clean a.errors b.errors h in
    omega (arith, f c.0, g c.1)

module _ (input : List ℕ) where
  bits-ok : (n o w : ℕ) (z : ℤ) → CleanOk (read_bits input n o w z)
  unfolding read_bits reading
  bits-ok n o w z = by_test CleanOk (leb (o + w) (total input)) (λ e h. refl) (λ e h. absurd (omega arith))

  pub clean-ok : (t : Tree) (lent : List ℤ) (o : ℕ) → CleanOk (read input t lent o)
  unfolding read two_sides reading any code_for
  clean-ok (unit n) lent o = λ h. refl
  clean-ok (bottom n) lent o = λ h. absurd (omega arith)
  clean-ok (bits n w) lent o = bits-ok n o w _
  clean-ok (signed n w) lent o = bits-ok n o w _
  clean-ok (then n a b) lent o =
      let r = read input a lent o in
      sides_ok r (read input b lent r.end) (clean-ok a lent o) (clean-ok b lent r.end)
  clean-ok (bind n a b) lent o =
      let r = read input a lent o in
      let z = cond (eqb r.code fail) (pos 0) r.number in
      sides_ok r (read input b (z ∷ lent) r.end) (clean-ok a lent o) (clean-ok b (z ∷ lent) r.end)
  clean-ok (either n a b) lent o =
      by_test CleanOk (eqb (read input a lent o).errors 0)
      (λ e h. clean-ok a lent o (any-clean (read input a lent o).errors h))
      (λ e h. clean-ok b lent o (any-clean (read input b lent o).errors h))
  clean-ok (both n a b) lent o = sides_ok (read input a lent o) (read input b lent o) (clean-ok a lent o) (clean-ok b lent o)
  clean-ok (where' n a r x) lent o = by_test CleanOk (eqb (read input a lent o).code fail) (λ e h. absurd (omega arith)) (λ e h. code-none _ h)
  clean-ok (sequence n e s t x) lent o = λ h. code-none _ h
  clean-ok (compute n w f x y) lent o = λ h. refl
  clean-ok (absorb n a) lent o = λ h. clean-ok a lent o (any-clean (read input a lent o).errors h)
  clean-ok (scan n a) lent o =
      by_search CleanOk (first_start (read input a lent) (total input - o) o) (λ e h. absurd (omega arith)) (λ p e h. code-none (p - o) (any-clean (p - o) h))

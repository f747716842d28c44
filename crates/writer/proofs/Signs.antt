-- Whether a number is one of its width, by one sum and one comparison.
use Rattle.std.proofs.Common.{◌≡◌, ℕ, zero, suc, ◌+◌, ◌-◌, ◌*◌, ◌/◌, ◌%◌, ◌^◌, ◌<◌, ◌≤◌, true, false, not, eqb, ltb, leb, ◌⊎◌, sym, ap, ◌∙◌, ap₂, subst, inl, inr, mod-lt, mod-eq_of_lt, suc-mul, add-mul, arith, pow_pos, pow-add, shr_lt, le-ltb, lt-ltb, eq-eqb, ne_eqb, le-leb}
use native.Mathlib.Decide.{dec_lt}
use lib.Bits.{bit_xor, xor_block, xor_zero_r}
use native.Mathlib.Nat.{mod-add-mod, add-mod_right}
use lib.Pow.{split, mod-mod-pow}
use borrow.Author.Tests.{lt-leb}
use Rattle.bits.specs.Whole.{twos_complement, word, modulo}
use Rattle.bits.proofs.Words.{twos_low, twos_high, sub_below}
use Rattle.writing.specs.Bits.{width_of, of_width}
use Rattle.writing.specs.declared.Field.{Field}
use Rattle.writing.specs.declared.Field.TheVariants.{Nothing, Bits, Signed, Unwritable}
use Rattle.writer.specs.Inner.Stored.{half_of, IsLooked}

-- a multiple is nothing, or the whole and more
none_or_more : (k m : ℕ) → (k * m ≡ 0) ⊎ (m ≤ k * m)
none_or_more zero m = inl (omega arith)
none_or_more (suc k) m = inr (omega (arith, suc-mul k m))

-- A number below 2 ^ 32, of which v + 1 bits are taken.
module _ (v n : ℕ) (narrow : suc v ≤ 32) (below : n < 2 ^ 32) where
  -- the low bits, what is above them, and what is left up to 2 ^ 32
  low : n % 2 ^ suc v < 2 ^ suc v
  low = mod-lt n (pow_pos (suc v))

  parts : n ≡ n / 2 ^ suc v * 2 ^ suc v + n % 2 ^ suc v
  parts = sym (split n (suc v))

  abbrev left : ℕ
  left = 2 ^ (32 - suc v) - suc (n / 2 ^ suc v)

  whole : 2 ^ 32 ≡ left * 2 ^ suc v + (n / 2 ^ suc v * 2 ^ suc v + 2 ^ suc v)
  whole =
      let all : 32 ≡ 32 - suc v + suc v = omega arith in
      let inside : n / 2 ^ suc v < 2 ^ (32 - suc v) = shr_lt (32 - suc v) (suc v) (subst (λ (k : ℕ). n < 2 ^ k) all below) in
      let taken : 2 ^ (32 - suc v) ≡ left + suc (n / 2 ^ suc v) = omega arith in
      ap (λ (k : ℕ). 2 ^ k) all
      ∙ pow-add 2 (32 - suc v) (suc v)
      ∙ ap (λ (k : ℕ). k * 2 ^ suc v) taken
      ∙ add-mul left (suc (n / 2 ^ suc v)) (2 ^ suc v)
      ∙ ap (λ (k : ℕ). left * 2 ^ suc v + k) (suc-mul (n / 2 ^ suc v) (2 ^ suc v))

  -- the word of the number that the low bits are
  low_word : 2 * (n % 2 ^ suc v) < 2 ^ suc v → word (twos_complement (suc v) (n % 2 ^ suc v)) ≡ n % 2 ^ suc v
  unfolding word modulo
  low_word h = rw (twos_low (suc v) (n % 2 ^ suc v) h) (mod-eq_of_lt (omega (arith, parts)))

  high_word : 2 ^ suc v ≤ 2 * (n % 2 ^ suc v) → word (twos_complement (suc v) (n % 2 ^ suc v)) ≡ 2 ^ 32 - 2 ^ suc v + n % 2 ^ suc v
  unfolding word modulo
  high_word h =
      let m = n % 2 ^ suc v in
      rw (twos_high (suc v) m h, sub_below m (2 ^ suc v) low, mod-eq_of_lt {n = 2 ^ suc v - suc m} {m = 2 ^ 32} (omega (arith, whole))) (omega (arith, whole, low))

  -- it is the number itself just where half of what there is, added, stays below all
  pub wrong-signed : leb (2 ^ suc v) ((n + 2 ^ v) % 2 ^ 32) ≡ not (eqb n (word (twos_complement (suc v) (n % 2 ^ suc v))))
  wrong-signed = go (dec_lt (2 * (n % 2 ^ suc v)) (2 ^ suc v)) (none_or_more (n / 2 ^ suc v) (2 ^ suc v)) (none_or_more left (2 ^ suc v))
    where
      Goal : Type 0
      Goal = leb (2 ^ suc v) ((n + 2 ^ v) % 2 ^ 32) ≡ not (eqb n (word (twos_complement (suc v) (n % 2 ^ suc v))))

      right : (n + 2 ^ v) % 2 ^ 32 < 2 ^ suc v → n ≡ word (twos_complement (suc v) (n % 2 ^ suc v)) → Goal
      right h e = rw (lt-leb (2 ^ suc v) ((n + 2 ^ v) % 2 ^ 32) h, eq-eqb n (word (twos_complement (suc v) (n % 2 ^ suc v))) e)

      wrong : 2 ^ suc v ≤ (n + 2 ^ v) % 2 ^ 32 → (n ≡ word (twos_complement (suc v) (n % 2 ^ suc v)) → ⊥) → Goal
      wrong h f = rw (le-leb (2 ^ suc v) ((n + 2 ^ v) % 2 ^ 32) h, ne_eqb n (word (twos_complement (suc v) (n % 2 ^ suc v))) f)

      go : Dec (2 * (n % 2 ^ suc v) < 2 ^ suc v) → (n / 2 ^ suc v * 2 ^ suc v ≡ 0) ⊎ (2 ^ suc v ≤ n / 2 ^ suc v * 2 ^ suc v)
          → (left * 2 ^ suc v ≡ 0) ⊎ (2 ^ suc v ≤ left * 2 ^ suc v) → Goal
      go (yes h) (inl none) l = right (omega (arith, parts, whole)) (omega (arith, parts, low_word h))
      go (yes h) (inr more) l = wrong (omega (arith, parts, whole)) (λ e. omega (arith, parts, low_word h))
      go (no f) p (inl none) = right (omega (arith, parts, whole, low)) (omega (arith, parts, whole, high_word (omega arith)))
      go (no f) p (inr more) = wrong (omega (arith, parts, whole, low)) (λ e. omega (arith, parts, whole, high_word (omega arith)))

wrong-bits : (w n : ℕ) → n < 2 ^ 32 → leb (2 ^ w) ((n + 0) % 2 ^ 32) ≡ not (ltb n (2 ^ w))
wrong-bits w n below = rw itself (go (dec_lt n (2 ^ w)))
  where
    itself : (n + 0) % 2 ^ 32 ≡ n
    itself = omega arith

    go : Dec (n < 2 ^ w) → leb (2 ^ w) n ≡ not (ltb n (2 ^ w))
    go (yes h) = rw (lt-leb (2 ^ w) n h, lt-ltb n (2 ^ w) h)
    go (no f) = rw (le-leb (2 ^ w) n (omega arith), le-ltb n (2 ^ w) (omega arith))

-- The bit of the sign, turned over,
turned-sign : (v m : ℕ) → m < 2 ^ suc v → bit_xor m (2 ^ v) ≡ (m + 2 ^ v) % 2 ^ suc v
turned-sign v m h = go (dec_lt m (2 ^ v))
  where
    go : Dec (m < 2 ^ v) → bit_xor m (2 ^ v) ≡ (m + 2 ^ v) % 2 ^ suc v
    go (yes l) =
        let off : 0 * 2 ^ v + m ≡ m = omega arith in
        let on : 1 * 2 ^ v + 0 ≡ 2 ^ v = omega arith in
        ap₂ bit_xor (sym off) (sym on) ∙ xor_block v 0 1 m 0 l (pow_pos v) ∙ ap (λ (k : ℕ). 1 * 2 ^ v + k) (xor_zero_r m)
        ∙ sym (mod-eq_of_lt {n = m + 2 ^ v} {m = 2 ^ suc v} (omega arith) ∙ omega arith)
    go (no f) =
        let r = m - 2 ^ v in
        let below : r < 2 ^ v = omega arith in
        let off : 1 * 2 ^ v + r ≡ m = omega arith in
        let on : 1 * 2 ^ v + 0 ≡ 2 ^ v = omega arith in
        let more : m + 2 ^ v ≡ r + 2 ^ suc v = omega arith in
        ap₂ bit_xor (sym off) (sym on) ∙ xor_block v 1 1 r 0 below (pow_pos v) ∙ ap (λ (k : ℕ). 0 * 2 ^ v + k) (xor_zero_r r)
        ∙ sym (ap (λ (k : ℕ). k % 2 ^ suc v) more ∙ add-mod_right r (2 ^ suc v) ∙ mod-eq_of_lt {n = r} {m = 2 ^ suc v} (omega arith) ∙ omega arith)

-- and turned back.
turned-back : (v n : ℕ) → suc v ≤ 32 → ((n + 2 ^ v) % 2 ^ 32 + 2 ^ v) % 2 ^ suc v ≡ n % 2 ^ suc v
turned-back v n narrow =
    let all : 32 ≡ 32 - suc v + suc v = omega arith in
    let whole : n + 2 ^ v + 2 ^ v ≡ n + 2 ^ suc v = omega arith in
    sym (mod-add-mod ((n + 2 ^ v) % 2 ^ 32) (2 ^ suc v) (2 ^ v))
    ∙ ap (λ (k : ℕ). (k + 2 ^ v) % 2 ^ suc v) (ap (λ (k : ℕ). (n + 2 ^ v) % 2 ^ k % 2 ^ suc v) all ∙ mod-mod-pow (n + 2 ^ v) (32 - suc v) (suc v))
    ∙ mod-add-mod (n + 2 ^ v) (2 ^ suc v) (2 ^ v)
    ∙ ap (λ (k : ℕ). k % 2 ^ suc v) whole
    ∙ add-mod_right n (2 ^ suc v)

module _ (w t h n : ℕ) (below : n < 2 ^ 32) where
  wrong-field : (f : Field) → 0 < width_of f → IsLooked f w t h → leb (2 ^ w) ((n + h) % 2 ^ 32) ≡ not (of_width f n)
  unfolding half_of of_width
  wrong-field Nothing some l = absurd (omega arith)
  wrong-field (Bits v) some l = rw (l.width, l.half) (wrong-bits v n below)
  wrong-field (Signed zero) some l = absurd (omega arith)
  wrong-field (Signed (suc v)) some l =
      let same : suc v - 1 ≡ v = omega arith in
      rw (l.width, l.half, same) (wrong-signed v n (omega (arith, l.narrow, l.width)) below)
  wrong-field Unwritable some l = absurd (omega arith)

  -- the largest number of the width is passed, or not
  past-most : {f : Field} → IsLooked f w t h → t < (n + h) % 2 ^ 32 → 2 ^ w ≤ (n + h) % 2 ^ 32
  past-most {f = f} l more = rw l.width (omega (arith, l.most, more, pow_pos (width_of f)))

  inside-most : {f : Field} → IsLooked f w t h → (n + h) % 2 ^ 32 ≤ t → (n + h) % 2 ^ 32 < 2 ^ w
  inside-most {f = f} l only = rw l.width (omega (arith, l.most, only, pow_pos (width_of f)))

  pub field-wrong : (f : Field) → 0 < width_of f → IsLooked f w t h → t < (n + h) % 2 ^ 32 → true ≡ not (of_width f n)
  field-wrong f some l more = sym (le-leb (2 ^ w) ((n + h) % 2 ^ 32) (past-most l more)) ∙ wrong-field f some l

  pub field-right : (f : Field) → 0 < width_of f → IsLooked f w t h → (n + h) % 2 ^ 32 ≤ t → false ≡ not (of_width f n)
  field-right f some l only = sym (lt-leb (2 ^ w) ((n + h) % 2 ^ 32) (inside-most l only)) ∙ wrong-field f some l

  -- the bits of one that is right
  pub bits-field : (f : Field) → 0 < width_of f → IsLooked f w t h → (n + h) % 2 ^ 32 ≤ t → bit_xor ((n + h) % 2 ^ 32) h ≡ n % 2 ^ width_of f
  unfolding half_of
  bits-field Nothing some l r = absurd (omega arith)
  bits-field (Bits v) some l r =
      let itself : (n + h) % 2 ^ 32 ≡ n = omega (arith, l.half) in
      let right : n < 2 ^ v = rw (itself, l.width) at (inside-most l r) in
      rw (itself, l.half) (xor_zero_r n ∙ sym (mod-eq_of_lt right))
  bits-field (Signed zero) some l r = absurd (omega arith)
  bits-field (Signed (suc v)) some l r =
      let half : h ≡ 2 ^ v = l.half ∙ ap (λ (k : ℕ). 2 ^ k) (omega arith) in
      rw half (turned-sign v ((n + 2 ^ v) % 2 ^ 32) (rw (half, l.width) at (inside-most l r)) ∙ turned-back v n (omega (arith, l.narrow, l.width)))
  bits-field Unwritable some l r = absurd (omega arith)

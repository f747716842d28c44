-- A row of an input's bits, and the row that a number is written as, for every width.
use Prim.Native.Nat.{ℕ, zero, suc, ◌+◌, ◌*◌, ◌/◌, ◌%◌, ◌^◌, ◌<◌}
use mathlib.Core.List.{List, [], ◌∷◌, ◌++◌}
use mathlib.Core.Path.{◌≡◌, refl, sym, ap, ◌∙◌}
use native.Mathlib.Nat.{mod-eq_of_lt, zero-add, add-zero, suc-add}
use native.Mathlib.Omega.{arith}
use lib.ListN.{length, get_or}
use Rattle.bits.specs.Bits.{bit, number}
use Rattle.bits.proofs.Numbers.{bit_below, number-below}
use Rattle.writing.specs.Bits.{in_width, value}
use Rattle.writing.proofs.Widths.{width_same, width_split, width_value}

-- each is a bit
abbrev pub AreBits : List ℕ → Type 0
AreBits [] = Unit
AreBits (b ∷ bits) = (b < 2) × AreBits bits

pub bits_append : (xs ys : List ℕ) → AreBits xs → AreBits ys → AreBits (xs ++ ys)
bits_append [] ys f g = g
bits_append (x ∷ xs) ys f g = (f.0, bits_append xs ys f.1 g)

-- The w bits of an input from offset o on.
unfoldable pub row : List ℕ → ℕ → ℕ → List ℕ
row input o zero = []
row input o (suc w) = bit input o ∷ row input (suc o) w

module _ (input : List ℕ) where
  pub row_append : (o v w : ℕ) → row input o (v + w) ≡ row input o v ++ row input (o + v) w
  unfolding row
  row_append o zero w = rw (zero-add, add-zero)
  row_append o (suc v) w =
      let on : suc o + v ≡ o + suc v = omega arith in
      rw suc-add (ap (λ bits. bit input o ∷ bits) (row_append (suc o) v w ∙ ap (λ k. row input (suc o) v ++ row input k w) on))

  pub row-length : (o w : ℕ) → length (row input o w) ≡ w
  unfolding row
  row-length o zero = refl
  row-length o (suc w) = ap suc (row-length (suc o) w)

  pub row_at : (o w k : ℕ) → k < w → get_or (row input o w) k 0 ≡ bit input (o + k)
  unfolding row
  row_at o zero k h = absurd (omega arith)
  row_at o (suc w) zero h = rw add-zero
  row_at o (suc w) (suc k) h = row_at (suc o) w k (omega arith) ∙ ap (bit input) (omega arith)

  pub row-bits : (o w : ℕ) → AreBits (row input o w)
  unfolding row
  row-bits o zero = tt
  row-bits o (suc w) = (bit_below input o, row-bits (suc o) w)

-- A number's row has its last bit at the end, and before it the row of its half.
width_last : (w n : ℕ) → in_width (suc w) n ≡ in_width w (n / 2) ++ (n % 2 ∷ [])
unfolding in_width
width_last w n =
    let more : suc w ≡ w + 1 = omega arith in
    ap (λ (k : ℕ). in_width k n) more ∙ width_split w 1 n ∙ ap (λ (b : ℕ). in_width w (n / 2) ++ (b % 2 ∷ [])) (omega arith)

pub width_bits : (w n : ℕ) → AreBits (in_width w n)
unfolding in_width
width_bits zero n = tt
width_bits (suc w) n = (omega arith, width_bits w n)

-- w bits of an input are the row of the number that they are
number-row : (input : List ℕ) (o w : ℕ) → in_width w (number input o w) ≡ row input o w
unfolding number row in_width
number-row input o zero = refl
number-row input o (suc w) =
    let n = number input o w in
    let b = bit input (o + w) in
    let below : b < 2 = bit_below input (o + w) in
    let more : suc w ≡ w + 1 = omega arith in
    let first : (2 * n + b) / 2 ≡ n = omega arith in
    let last : (2 * n + b) % 2 ≡ b = omega arith in
    width_last w (number input o (suc w))
    ∙ cc (number-row input o w)
    ∙ sym (ap (row input o) more ∙ row_append input o w 1)

-- A number whose low w bits are those of the input is written as them,
pub row_of : (input : List ℕ) (o w n : ℕ) → n % 2 ^ w ≡ number input o w → in_width w n ≡ row input o w
row_of input o w n e = sym (width_same w n) ∙ ap (in_width w) e ∙ number-row input o w

-- and where its row stands in the input, its low w bits are read.
pub number_of : (input : List ℕ) (o w n : ℕ) → row input o w ≡ in_width w n → number input o w ≡ n % 2 ^ w
number_of input o w n e =
    sym (mod-eq_of_lt (number-below input o w))
    ∙ sym (width_value w (number input o w))
    ∙ ap (value w) (number-row input o w ∙ e)
    ∙ width_value w n

-- Laws of the number that a run of bits is, for every width.
use mathlib.Core.Path.{◌≡◌}
use mathlib.Core.List.{List}
use Prim.Native.Nat.{ℕ, zero, suc, ◌+◌, ◌*◌, ◌^◌, ◌≤◌, ◌<◌}
use native.Mathlib.Nat.{lt_of_lt_of_le}
use native.Mathlib.Numerals.{add-one}
use native.Mathlib.Omega.{arith}
use lib.Dec.{lit<}
use lib.Pow.{pow_mono}
use Rattle.bits.specs.Bits.{bit, number}

module _ (input : List ℕ) where
  pub bit_below : (k : ℕ) → bit input k < 2
  unfolding bit
  bit_below k = omega arith

  module _ (o : ℕ) where
    -- one bit more at the end
    pub number_more : (w : ℕ) → number input o (w + 1) ≡ 2 * number input o w + bit input (o + w)
    unfolding number
    number_more w = rw add-one

    -- w bits make a number below 2 ^ w
    pub number-below : (w : ℕ) → number input o w < 2 ^ w
    unfolding number
    number-below zero = lit< tt
    number-below (suc w) =
        let h : number input o w < 2 ^ w = number-below w in
        let b : bit input (o + w) < 2 = bit_below (o + w) in
        omega arith

    -- at most 32 bits
    pub number_small : (w : ℕ) → w ≤ 32 → number input o w < 2 ^ 32
    number_small w h = lt_of_lt_of_le (number-below w) (pow_mono h)

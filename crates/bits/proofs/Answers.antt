-- When the lowest number read answers which case.
use Rattle.std.specs.Prelude.{ℕ, ◌+◌, ◌-◌, ◌≤◌, ◌<◌, ◌≡◌, List, Ok, Err}
use Rattle.std.proofs.Common.{arith}
use Rattle.std.proofs.lemmas.Bool.Decides.{nat_tests}
use Rattle.bits.specs.Bits.{total}
use Rattle.bits.specs.Lowest.{missing_bits, lowest}
use Rattle.bits.specs.declared.Unread.TheVariants.{Missing, TooWide}

module _ {A : Type 0} (input : List ℕ) (o w : ℕ) (z : A) where
  pub lowest_wide : 32 < w → lowest input o w z ≡ Err TooWide
  unfolding lowest
  lowest_wide h = grind (arith, nat_tests)

  pub lowest_missing : w ≤ 32 → total input < o + w → lowest input o w z ≡ Err (Missing (missing_bits input o w))
  unfolding lowest
  lowest_missing h m = grind (arith, nat_tests)

  pub lowest-number : w ≤ 32 → o + w ≤ total input → lowest input o w z ≡ Ok z
  unfolding lowest
  lowest-number h t = grind (arith, nat_tests)

  -- and back
  pub is_number : (y : A) → lowest input o w z ≡ Ok y → (o + w ≤ total input) × (y ≡ z)
  unfolding lowest
  is_number y e = (grind (arith, nat_tests), grind (arith, nat_tests))

  pub is_missing : (n : ℕ) → w ≤ 32 → lowest input o w z ≡ Err (Missing n) → (total input < o + w) × (n ≡ missing_bits input o w)
  unfolding lowest
  is_missing n h e = (grind (arith, nat_tests), grind (arith, nat_tests))

  pub not_wide : w ≤ 32 → lowest input o w z ≡ Err TooWide → ⊥
  unfolding lowest
  not_wide h e = grind (arith, nat_tests)

-- Where an offset is inside the input, what is missing is no more than is wanted, and told as it is.
pub missing_within : (input : List ℕ) (o w : ℕ) → o ≤ total input → w ≤ 32 → missing_bits input o w ≡ o + w - total input
unfolding missing_bits
missing_within input o w h n = omega arith

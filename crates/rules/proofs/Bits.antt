-- What bits and signed give, where the bits are all there and where not.
use Prim.Native.Nat.{ℕ, ◌+◌, ◌-◌, ◌≤◌, ◌<◌}
use mathlib.Core.List.{List, []}
use mathlib.Core.Path.{◌≡◌}
use lib.IntN.{ℤ, pos}
use native.Mathlib.Omega.{arith}
use borrow.Author.Tests.{lt-leb}
use Rattle.bits.specs.Bits.{total}
use Rattle.rules.specs.Entries.{reading, fail}
use Rattle.rules.specs.Reading.{read_bits}

module _ (input : List ℕ) (n o w : ℕ) (z : ℤ) where
  pub bits_missing : total input < o + w → read_bits input n o w z ≡ reading n o o 1 fail (pos 0) (o + w - total input) []
  unfolding read_bits
  bits_missing h = rw (lt-leb (o + w) (total input) h, read_bits)

-- A reading begins at T or before, so no more bits are missing than are wanted: the detail of a failed read is from 1 to 32.
pub missing_few : (input : List ℕ) (o w : ℕ) → o ≤ total input → w ≤ 32 → total input < o + w → (1 ≤ o + w - total input) × (o + w - total input ≤ 32)
missing_few input o w within narrow past = (omega arith, omega arith)

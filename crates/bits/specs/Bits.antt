-- The bits of an input, and the number that a run of them is.
use Rattle.std.specs.Prelude.{ℕ, zero, suc, ◌+◌, ◌-◌, ◌*◌, ◌/◌, ◌%◌, ◌^◌, List, length, get_or}

-- "T is 8 times the input length."
unfoldable pub total : List ℕ → ℕ
total input = 8 * length input

-- "Bits are numbered from 0, the most significant of each byte first": bit k of an input.
unfoldable pub bit : List ℕ → ℕ → ℕ
bit input k = get_or input (k / 8) 0 / 2 ^ (7 - k % 8) % 2

-- "the w bits as unsigned ... number": the number of the w bits from offset o on.
unfoldable pub number : List ℕ → ℕ → ℕ → ℕ
number input o zero = 0
number input o (suc w) = 2 * number input o w + bit input (o + w)

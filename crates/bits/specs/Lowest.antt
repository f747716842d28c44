-- What the lowest number read answers.
use Rattle.std.specs.Prelude.{ℕ, ◌+◌, ◌-◌, min, cond, List, leb, ℤ, pos, Result, Ok, Err}
use Rattle.bits.specs.Bits.{total, number}
use Rattle.bits.specs.Whole.{twos_complement}
use Rattle.bits.specs.declared.Unread.{Unread}
use Rattle.bits.specs.declared.Unread.TheVariants.{Missing, TooWide}

-- The largest number of 64 bits.
abbrev pub most64 : ℕ
most64 = 18446744073709551615

-- "its missing bits too, o + w - T" (request 1), where that is a number of 64 bits; any larger one is told as the largest.
unfoldable pub missing_bits : List ℕ → ℕ → ℕ → ℕ
missing_bits input o w = min (o + w - total input) most64

-- z where the w bits from o on are all there, and no more than 32
unfoldable pub lowest : {A : Type 0} → List ℕ → ℕ → ℕ → A → Result A Unread
lowest input o w z = cond (leb w 32) (cond (leb (o + w) (total input)) (Ok z) (Err (Missing (missing_bits input o w)))) (Err TooWide)

abbrev pub lowest_unsigned : List ℕ → ℕ → ℕ → Result ℤ Unread
lowest_unsigned input o w = lowest input o w (pos (number input o w))

abbrev pub lowest_signed : List ℕ → ℕ → ℕ → Result ℤ Unread
lowest_signed input o w = lowest input o w (twos_complement w (number input o w))

-- What 15 for the entries of a table, and 16, leave of a call. An entry by itself is a table of one entry.
use Rattle.std.specs.Prelude.{ℕ, Bool, true, false, List}
use Rattle.std.specs.List.{list_any, flat_map}
use Rattle.writing.specs.Bits.{field_bits}
use Rattle.writing.specs.Entries.{number_at, field_at, is_wrong}
use Rattle.writing.specs.Outcome.{Outcome, refusing, writing}
use Rattle.writing.specs.declared.Refused.TheVariants.{WrongTable}
use Rattle.writing.specs.declared.Field.{Field}

module _ (fields : List Field) where
  unfoldable pub wrong_entry : List ℕ → Bool
  wrong_entry entry = is_wrong entry fields 0

  unfoldable pub entry_bits : List ℕ → List ℕ
  entry_bits entry = field_bits (field_at entry fields 0) (number_at entry 0)

unfoldable pub entered : (n : ℕ) → List Field → List (List ℕ) → Outcome
entered n fields entries =
    elim (list_any (wrong_entry fields) entries) [ true ↦ refusing n WrongTable | false ↦ writing n (flat_map (entry_bits fields) entries) ]

-- Evaluation: whoever says `unfolding evaluated` has the checker compute a call's outcome to its numbers and bytes, as rules/proofs/Evaluate.antt does for a reading.
use Prim.Native.Nat.{ℕ}
use mathlib.Core.List.{List}
use Rattle.rules.proofs.Evaluate as reader
use Rattle.writing.specs.Bits.{in_width, field_bits, of_width, value, bytes_for, packed}
use Rattle.writing.specs.Entries.{entry_words, holds, node_at, number_at, field_at, is_wrong, some_wrong, bits_from}
use Rattle.writing.specs.Fields.{field_of, nodes_of, fields_of, is_unwritable, some_unwritable}
use Rattle.writing.specs.Outcome.{Stated, stated, refusing, writing, outcome}

-- What a call states, and the buffer afterwards.
pub record Evaluated : Type 0 where
  pub states : Stated
  pub buffer : List ℕ

-- A buffer of n bytes, a description's bytes, a table's words and a count of entries.
unfoldable pub evaluated : (n : ℕ) → (description values : List ℕ) → (count : ℕ) → Evaluated
unfolding reader.evaluated
    in_width field_bits of_width value bytes_for packed entry_words holds node_at number_at field_at is_wrong some_wrong bits_from
    field_of nodes_of fields_of is_unwritable some_unwritable stated refusing writing outcome
evaluated n description values count =
    let o = outcome n description values count in
    record { states = stated o.answer; buffer = o.buffer }

-- What the writer does with a table that has entries of which none is wrong.
use Prim.Native.Nat.{ℕ, min, ◌≤◌}
use mathlib.Core.Bool.{false}
use mathlib.Core.List.{List}
use mathlib.Core.Path.{◌≡◌, ◌∙◌}
use lib.ListN.{length}
use Rattle.description.specs.Check.{accepted, meaning}
use Rattle.description.specs.Trees.{Tree}
use Rattle.rules.specs.Entries.{Entry}
use Rattle.rules.specs.Outcome.{most_input}
use Rattle.writing.specs.Bits.{bytes_for}
use Rattle.writing.specs.Entries.{holds, some_wrong, bits_from}
use Rattle.writing.specs.Fields.{fields_of, some_unwritable}
use Rattle.writing.specs.Outcome.{writing, outcome}
use Rattle.writing.proofs.Outcomes.{written, writing-fits, outcome-entered}
use Rattle.writing.proofs.Listed.{entry_bits, AllRight, listed-bits, none-wrong}
use Rattle.promises.specs.Table.{entry_at}
use Rattle.promises.proofs.Agreeing.{Agrees}

module _ (n : ℕ) (desc : List ℕ) (t : Tree) (m : meaning desc ≡ accepted t) (writable : some_unwritable (fields_of desc) ≡ false) (values : List ℕ) where
  outcome-written : (count : ℕ) → count ≤ holds values → some_wrong values (fields_of desc) 0 count ≡ false
      → outcome n desc values count ≡ writing n (bits_from values (fields_of desc) 0 count)
  outcome-written count held right = outcome-entered n desc values count t m writable held ∙ rw right

  -- The same by the entries.
  pub entries-written : (descriptors : List ℕ) (es : List Entry) → Agrees (entry_at values descriptors) 0 es → AllRight (fields_of desc) es
      → length es ≤ holds values → bytes_for (length (entry_bits (fields_of desc) es)) ≤ min n most_input
      → outcome n desc values (length es) ≡ written n (entry_bits (fields_of desc) es)
  entries-written descriptors es are right held space =
      outcome-written (length es) held (none-wrong (fields_of desc) values descriptors es 0 are right)
      ∙ rw (listed-bits (fields_of desc) values descriptors es 0 are) (writing-fits n (entry_bits (fields_of desc) es) space)

-- The entries of a value table as the writer sees them.
use Rattle.std.specs.Prelude.{ℕ, zero, suc, ◌+◌, ◌*◌, ◌/◌, Bool, false, not, ◌&&◌, ◌||◌, List, [], ◌++◌, ltb, length, get_or}
use Rattle.writing.specs.Bits.{field_bits, of_width}
use Rattle.writing.specs.declared.Field.{Field}
use Rattle.writing.specs.declared.Field.TheVariants.{Nothing}

-- "A value entry has four 32-bit words: node number, number (low 32 bits), detail, size".
unfoldable pub entry_words : ℕ
entry_words = 4

-- How many entries a table holds.
unfoldable pub holds : List ℕ → ℕ
holds values = length values / entry_words

module _ (values : List ℕ) where
  -- Of entry i, the two words that are looked at.
  unfoldable pub node_at : ℕ → ℕ
  node_at i = get_or values (entry_words * i) 0

  unfoldable pub number_at : ℕ → ℕ
  number_at i = get_or values (entry_words * i + 1) 0

  module _ (fields : List Field) where
    -- The field of entry i.
    unfoldable pub field_at : ℕ → Field
    field_at i = get_or fields (node_at i) Nothing

    -- Its "node number is not in the description", or its number "is not one of its width".
    unfoldable pub is_wrong : ℕ → Bool
    is_wrong i = not (ltb (node_at i) (length fields) && of_width (field_at i) (number_at i))

    -- The same of some entry of so many from entry i on.
    unfoldable pub some_wrong : (i left : ℕ) → Bool
    some_wrong i zero = false
    some_wrong i (suc left) = is_wrong i || some_wrong (suc i) left

    -- "the numbers of all bits and signed entries, in entry order, each in its width", of so many from entry i on.
    unfoldable pub bits_from : (i left : ℕ) → List ℕ
    bits_from i zero = []
    bits_from i (suc left) = field_bits (field_at i) (number_at i) ++ bits_from (suc i) left

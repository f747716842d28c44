-- What the nodes of a description are to the writer.
use Rattle.std.specs.Prelude.{ℕ, Bool, true, false, ◌||◌, List, [], ◌∷◌, map}
use Rattle.description.specs.Check.{parsed, stopped, nodes_from}
use Rattle.description.specs.Limits.{most_nodes}
use Rattle.description.specs.Nodes.{Node, unit, bottom, bits, signed, then, bind, either, both, where', sequence, compute, absorb, scan}
use Rattle.writing.specs.declared.Field.{Field}
use Rattle.writing.specs.declared.Field.TheVariants.{Nothing, Bits, Signed, Unwritable}

-- "the numbers of all bits and signed entries ... each in its width", and "the description has both, absorb or scan": the kinds, matched here alone.
unfoldable pub field_of : Node → Field
field_of unit = Nothing
field_of bottom = Nothing
field_of (bits w) = Bits w
field_of (signed w) = Signed w
field_of (then a b) = Nothing
field_of (bind a b) = Nothing
field_of (either a b) = Nothing
field_of (both a b) = Unwritable
field_of (where' a r x) = Nothing
field_of (sequence e s t x) = Nothing
field_of (compute w f x y) = Nothing
field_of (absorb a) = Unwritable
field_of (scan a) = Unwritable

-- The nodes of a description that the check accepts.
unfoldable pub nodes_of : List ℕ → List Node
nodes_of desc = elim (nodes_from desc most_nodes [] 0) [ parsed nodes ↦ nodes | stopped r ↦ [] ]

-- The fields of a description, by node number.
unfoldable pub fields_of : List ℕ → List Field
fields_of desc = map field_of (nodes_of desc)

unfoldable pub is_unwritable : Field → Bool
is_unwritable Nothing = false
is_unwritable (Bits w) = false
is_unwritable (Signed w) = false
is_unwritable Unwritable = true

-- "14, the description has both, absorb or scan", anywhere.
unfoldable pub some_unwritable : List Field → Bool
some_unwritable [] = false
some_unwritable (f ∷ fs) = is_unwritable f || some_unwritable fs

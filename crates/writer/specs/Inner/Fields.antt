-- The fields of a description's nodes, by their numbers.
use Rattle.std.specs.Prelude.{ℕ, List, map}
use Rattle.description.specs.Check.{node_at}
use Rattle.description.specs.Places.{start, nodes_to}
use Rattle.writing.specs.Fields.{field_of}
use Rattle.writing.specs.declared.Field.{Field}

module _ (desc : List ℕ) where
  -- The field of node k, and of the first n nodes.
  unfoldable pub node_field : ℕ → Field
  node_field k = field_of (node_at desc (start desc k))

  unfoldable pub fields_to : ℕ → List Field
  fields_to n = map field_of (nodes_to desc n)

-- A node of a description: its kind, with the fields of its body.
use Rattle.std.specs.Prelude.{ℕ, Bool, true, false, List, [], ◌∷◌, ℤ}

-- "Relations 0 to 5: equal, not equal, less, at most, greater, at least."
pub data Relation : Type 0 where
  equal not_equal less at_most greater at_least : Relation

-- "Operators: 0 add, 1 subtract."
pub data Operator : Type 0 where
  add subtract : Operator

-- An operand is a constant, "or ... k, the number bound by the k-th enclosing bind counted outward from 0".
pub data Operand : Type 0 where
  constant : ℤ → Operand
  bound : (k : ℕ) → Operand

-- The kinds in 01's order; a child is a node number. `where` is a word of the proof language, so that kind is `where'`.
pub data Node : Type 0 where
  unit bottom : Node
  bits signed : (width : ℕ) → Node
  then bind either both : (first second : ℕ) → Node
  where' : (child : ℕ) → Relation → Operand → Node
  sequence : (element separator terminator : ℕ) → Operand → Node
  compute : (width : ℕ) → Operator → Operand → Operand → Node
  absorb scan : (child : ℕ) → Node

-- The children that a node names, in the order of its body.
unfoldable pub children : Node → List ℕ
children unit = []
children bottom = []
children (bits w) = []
children (signed w) = []
children (then a b) = a ∷ b ∷ []
children (bind a b) = a ∷ b ∷ []
children (either a b) = a ∷ b ∷ []
children (both a b) = a ∷ b ∷ []
children (where' a r x) = a ∷ []
children (sequence e s t x) = e ∷ s ∷ t ∷ []
children (compute w f x y) = []
children (absorb a) = a ∷ []
children (scan a) = a ∷ []

-- "Number nodes are kinds 02, 03, 08 and 0A".
unfoldable pub is_number : Node → Bool
is_number unit = false
is_number bottom = false
is_number (bits w) = true
is_number (signed w) = true
is_number (then a b) = false
is_number (bind a b) = false
is_number (either a b) = false
is_number (both a b) = false
is_number (where' a r x) = true
is_number (sequence e s t x) = false
is_number (compute w f x y) = true
is_number (absorb a) = false
is_number (scan a) = false

-- "the first child of bind and the child of where must be number nodes": the children of which that is asked.
unfoldable pub must_be_numbers : Node → List ℕ
must_be_numbers unit = []
must_be_numbers bottom = []
must_be_numbers (bits w) = []
must_be_numbers (signed w) = []
must_be_numbers (then a b) = []
must_be_numbers (bind a b) = a ∷ []
must_be_numbers (either a b) = []
must_be_numbers (both a b) = []
must_be_numbers (where' a r x) = a ∷ []
must_be_numbers (sequence e s t x) = []
must_be_numbers (compute w f x y) = []
must_be_numbers (absorb a) = []
must_be_numbers (scan a) = []

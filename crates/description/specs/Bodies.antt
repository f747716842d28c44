-- Kinds and their bytes: what the functions over the table of kinds answer.
use Rattle.std.specs.Prelude.{ℕ, Bool, true, false, ◌||◌, ◌≡◌, ◌≤◌, List, [], ◌∷◌, eqb, leb, length, get_or, Option, Some, None, Result, MatchResult}
use Rattle.description.specs.Kinds.{kinds, row_of, is_relation, relation, is_operator, operator}
use Rattle.description.specs.Nodes.{Relation, equal, not_equal, less, at_most, greater, at_least, Operator, add, subtract}
use Rattle.description.specs.declared.kinds.Body.{Body}
use Rattle.description.specs.declared.kinds.Kind.{Kind}
use Rattle.description.specs.declared.kinds.Kind.TheVariants as kind
use Rattle.description.specs.declared.kinds.NotListed.{NotListed}
use Rattle.description.specs.declared.kinds.Operator as operators
use Rattle.description.specs.declared.kinds.Operator.TheVariants.{Add, Subtract}
use Rattle.description.specs.declared.kinds.Relation as relations
use Rattle.description.specs.declared.kinds.Relation.TheVariants.{Equal, NotEqual, Less, AtMost, Greater, AtLeast}
use Rattle.description.specs.declared.kinds.UnknownKind.{UnknownKind}

-- The byte of a kind, 00 to 0C.
abbrev pub byte_of : Kind → ℕ
byte_of kind.Unit = 0
byte_of kind.Bottom = 1
byte_of kind.Bits = 2
byte_of kind.Signed = 3
byte_of kind.Then = 4
byte_of kind.Bind = 5
byte_of kind.Either = 6
byte_of kind.Both = 7
byte_of kind.Where = 8
byte_of kind.Sequence = 9
byte_of kind.Compute = 10
byte_of kind.Absorb = 11
byte_of kind.Scan = 12

-- What a byte is read as: the kind with this byte, or nothing where the byte is past the table.
abbrev pub KindOf : ℕ → Result Kind UnknownKind → Type 0
KindOf byte r = MatchResult r (λ k. byte_of k ≡ byte) (λ _. length kinds ≤ byte)

-- How many children a body begins with, for kinds 00 to 0C.
unfoldable pub child_counts : List ℕ
child_counts = 0 ∷ 0 ∷ 0 ∷ 0 ∷ 2 ∷ 2 ∷ 2 ∷ 2 ∷ 1 ∷ 3 ∷ 0 ∷ 1 ∷ 1 ∷ []

unfoldable pub child_count : ℕ → ℕ
child_count kind = get_or child_counts kind 0

-- The body of the kind that a byte says: nothing where the byte is past the table.
unfoldable pub body_of : ℕ → Option Body
body_of kind = elim (leb (length kinds) kind) [ true ↦ None | false ↦ Some (record { bytes = (row_of kind).bytes; children = child_count kind }) ]

-- "Number nodes are kinds 02, 03, 08 and 0A".
unfoldable pub is_number_kind : ℕ → Bool
is_number_kind kind = eqb kind 2 || eqb kind 3 || eqb kind 8 || eqb kind 10

-- The relation and the operator that the code's values are.
abbrev pub relation_meant : relations.Relation → Relation
relation_meant Equal = equal
relation_meant NotEqual = not_equal
relation_meant Less = less
relation_meant AtMost = at_most
relation_meant Greater = greater
relation_meant AtLeast = at_least

abbrev pub operator_meant : operators.Operator → Operator
operator_meant Add = add
operator_meant Subtract = subtract

-- What a byte is read as: what it is listed as, or nothing where it is not listed.
abbrev pub RelationOf : ℕ → Result relations.Relation NotListed → Type 0
RelationOf byte r =
    MatchResult r (λ q. (is_relation byte ≡ true) × (relation_meant q ≡ relation byte)) (λ _. is_relation byte ≡ false)

abbrev pub OperatorOf : ℕ → Result operators.Operator NotListed → Type 0
OperatorOf byte r =
    MatchResult r (λ f. (is_operator byte ≡ true) × (operator_meant f ≡ operator byte)) (λ _. is_operator byte ≡ false)

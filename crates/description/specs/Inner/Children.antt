-- A node's children as bytes of its body, and what the node puts around them and needs itself.
use Rattle.std.specs.Prelude.{ℕ, zero, suc, ◌+◌, max, cond, ◌&&◌, ◌||◌, List, [], ◌∷◌, eqb, take, Option, Some, None}
use Rattle.description.specs.Binds.{needs_of}
use Rattle.description.specs.Kinds.{byte, operand}
use Rattle.description.specs.Nodes.{Operand, constant, bound}

-- The k bytes from byte i on, as children.
unfoldable pub children_at : List ℕ → ℕ → ℕ → List ℕ
children_at desc i zero = []
children_at desc i (suc k) = byte desc i ∷ children_at desc (i + 1) k

-- How many binds a node puts around its child at place j: "Only the second child of a bind lies inside that binding."
unfoldable pub binding : ℕ → ℕ → ℕ
binding kind j = cond (eqb kind 5 && eqb j 1) 1 0

-- The bind that an operand names.
abbrev pub bind_named : Operand → Option ℕ
bind_named (constant z) = None
bind_named (bound k) = Some k

-- How many binds the operands of a body that begins at byte i need around them: a where's, a sequence's, a compute's.
unfoldable pub own_needs : List ℕ → ℕ → ℕ → ℕ
own_needs desc kind i =
    cond (eqb kind 8) (needs_of (operand desc (i + 2)))
    (cond (eqb kind 9) (needs_of (operand desc (i + 3)))
    (cond (eqb kind 10) (max (needs_of (operand desc (i + 2))) (needs_of (operand desc (i + 7)))) 0))

-- "the first child of bind and the child of where must be number nodes": of a node's children those of which that is asked, by its kind byte.
unfoldable pub number_children : ℕ → List ℕ → List ℕ
number_children kind children = take (cond (eqb kind 5 || eqb kind 8) 1 0) children

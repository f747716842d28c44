-- The tree that a description means: a node's children stand in it, and each node carries its number.
use Rattle.std.specs.Prelude.{ℕ, ◌-◌, List, [], ◌∷◌, ◌++◌, length, get_or}
use Rattle.description.specs.Nodes.{Relation, Operator, Operand, Node}

pub data Tree : Type 0 where
  unit bottom : (node : ℕ) → Tree
  bits signed : (node width : ℕ) → Tree
  then bind either both : (node : ℕ) → (first second : Tree) → Tree
  where' : (node : ℕ) → (child : Tree) → Relation → Operand → Tree
  sequence : (node : ℕ) → (element separator terminator : Tree) → Operand → Tree
  compute : (node width : ℕ) → Operator → Operand → Operand → Tree
  absorb scan : (node : ℕ) → (child : Tree) → Tree

-- The tree of node n, from the trees of the nodes before it: "A child is ... a node number smaller than the node's own."
unfoldable pub tree : (ℕ → Tree) → ℕ → Node → Tree
tree child n Node.unit = unit n
tree child n Node.bottom = bottom n
tree child n (Node.bits w) = bits n w
tree child n (Node.signed w) = signed n w
tree child n (Node.then a b) = then n (child a) (child b)
tree child n (Node.bind a b) = bind n (child a) (child b)
tree child n (Node.either a b) = either n (child a) (child b)
tree child n (Node.both a b) = both n (child a) (child b)
tree child n (Node.where' a r x) = where' n (child a) r x
tree child n (Node.sequence e s t x) = sequence n (child e) (child s) (child t) x
tree child n (Node.compute w f x y) = compute n w f x y
tree child n (Node.absorb a) = absorb n (child a)
tree child n (Node.scan a) = scan n (child a)

-- The trees of all nodes, in their order, from the front.
unfoldable pub trees_after : List Tree → List Node → List Tree
trees_after before [] = before
trees_after before (node ∷ nodes) = trees_after (before ++ (tree (λ c. get_or before c (unit 0)) (length before) node ∷ [])) nodes

-- "The last node is the root."
unfoldable pub root_tree : List Node → Tree
root_tree nodes = get_or (trees_after [] nodes) (length nodes - 1) (unit 0)

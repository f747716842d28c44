-- Where the nodes of a description begin, and what is known of each: what the check leaves for the reader.
use Rattle.std.specs.Prelude.{ℕ, zero, suc, ◌+◌, ◌≤◌, ◌<◌, List, [], ◌∷◌, ◌++◌, ◌≡◌, length, get_or}
use Rattle.std.proofs.Math.Option.{none}
use Rattle.std.proofs.lemmas.List.Edits.{sets}
use Rattle.description.specs.Kinds.{byte, operand}
use Rattle.description.specs.Limits.{most_bytes, most_nodes}
use Rattle.description.specs.Nodes.{Node, Operand, constant, bound}
use Rattle.description.specs.Check.{node_at, node_end, node_refusal, Parsed, parsed, stopped, nodes_from}
use Rattle.description.specs.Refusals.{refusal_node}
use Rattle.description.specs.Trees.{Tree, root_tree}
use Rattle.description.specs.declared.places.Operand as answers
use Rattle.description.specs.declared.places.Operand.TheVariants.{Constant, Bound}

module _ (desc : List ℕ) where
  -- "Nodes stand one after another, numbered from 0": where node k begins.
  unfoldable pub start : ℕ → ℕ
  start zero = 0
  start (suc k) = node_end desc (start k)

  -- Where the first n nodes begin.
  unfoldable pub starts_to : ℕ → List ℕ
  starts_to zero = []
  starts_to (suc n) = starts_to n ++ (start n ∷ [])

  -- The first n nodes.
  unfoldable pub nodes_to : ℕ → List Node
  nodes_to zero = []
  nodes_to (suc n) = nodes_to n ++ (node_at desc (start n) ∷ [])

  -- The kind byte of node k, and byte j of its body: a child, a width, a relation or an operator.
  unfoldable pub kind_of : ℕ → ℕ
  kind_of k = byte desc (start k)

  unfoldable pub field_of : ℕ → ℕ → ℕ
  field_of k j = byte desc (start k + 1 + j)

  -- The operand whose five bytes begin at byte j of the body of node k.
  unfoldable pub operand_of : ℕ → ℕ → Operand
  operand_of k j = operand desc (start k + 1 + j)

  -- The tree of node k: the root of the nodes up to it.
  unfoldable pub tree_of : ℕ → Tree
  tree_of k = root_tree (nodes_to (suc k))

  -- Node k begins inside the description, and none of 2, 3, 5, 6, 7, 8 is found at it.
  pub record Stands (k : ℕ) : Type 0 where
    pub begins : start k < length desc
    pub clear : node_refusal desc (nodes_to k) (start k) ≡ none

  -- The first n nodes stand, and `starts`, which has room for all that there may be, has where they begin.
  pub record Found (starts : List ℕ) (n : ℕ) : Type 0 where
    pub room : length starts ≡ most_nodes
    pub placed : (k : ℕ) → k < n → get_or starts k 0 ≡ start k
    pub stand : (k : ℕ) → k < n → Stands k

-- The operand that an answer says.
abbrev pub meant : answers.Operand → Operand
meant (Constant z) = constant z
meant (Bound k) = bound k

-- What the check says of a node: it is among those that a description may have, and it and all before it stand.
pub record Placed (desc starts : List ℕ) (node : ℕ) : Type 0 where
  pub short : length desc ≤ most_bytes
  pub few : node < most_nodes
  pub found : Found desc starts (node + 1)

-- What is known of a node where it is visited: it is among those that a description may have, `starts` has where it begins, and it stands.
pub record Known (desc starts : List ℕ) (node : ℕ) : Type 0 where
  pub few : node < most_nodes
  pub begins : get_or starts node 0 ≡ start desc node
  pub stands : Stands desc node

-- How many nodes stand before a parse ends: all of them, or those before the node at which it stops, which is the one that the refusal gives.
unfoldable pub standing : Parsed → ℕ
standing (parsed nodes) = length nodes
standing (stopped r) = refusal_node r

-- The array of starts after a parse: the starts of the nodes that stand, in front of what stood there.
unfoldable pub placed_starts : List ℕ → List ℕ → List ℕ
placed_starts desc starts = sets starts 0 (starts_to desc (standing (nodes_from desc most_nodes [] 0)))

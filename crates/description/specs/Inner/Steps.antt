-- The steps of the check: what its functions promise each other of their answers.
use Rattle.std.specs.Prelude.{ℕ, ◌≤◌, Bool, List, [], ◌≡◌, length, Result, Ok, Err}
use Rattle.std.proofs.Math.Option.{Option, none, some}
use Rattle.description.specs.Check.{named_by, Parsed, parsed, stopped, nodes_from, tree_refusal}
use Rattle.description.specs.Limits.{most_nodes}
use Rattle.description.specs.Inner.Names.{Marks}
use Rattle.description.specs.Nodes.{Node}
use Rattle.description.specs.Places.{start, nodes_to, Found}
use Rattle.description.specs.declared.Refusal.{Refusal}
use Rattle.description.specs.declared.places.Nodes.{Nodes}

-- The nodes that a `Nodes` has.
abbrev pub front : Nodes → List Node
front nodes = nodes_to nodes.desc.now (length nodes.starts.now)

-- What the step over one node answers: its refusal, or where the next begins.
unfoldable pub step_of : Option Refusal → ℕ → Result ℕ Refusal
step_of none end = Ok end
step_of (some r) end = Err r

-- What the parse answers.
unfoldable pub counted : Parsed → Result ℕ Refusal
counted (parsed nodes) = Ok (length nodes)
counted (stopped r) = Err r

-- What a parse that ends with n nodes leaves: they all stand, their starts are placed, and the flags mark the children that they name.
pub record Whole (desc starts : List ℕ) (flags : List Bool) (n : ℕ) : Type 0 where
  pub nodes-are : nodes_from desc most_nodes [] 0 ≡ parsed (nodes_to desc n)
  pub found : Found desc starts n
  pub marks : Marks flags (named_by (nodes_to desc n))
  pub few : n ≤ most_nodes
  pub ends : length desc ≤ start desc n

-- What 9 and 10 leave of nodes that were parsed.
unfoldable pub judged : List Node → Result ℕ Refusal
judged nodes = elim (tree_refusal nodes) [ some r ↦ Err r | none ↦ Ok (length nodes) ]

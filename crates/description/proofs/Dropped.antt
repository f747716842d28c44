-- Request 4: "Show that no description reaches refusal 11 and drop it from the check. The number is not used again; no answer changes." The check
-- with 11, as it was, stands here alone.
use Prim.Native.Nat.{ℕ, ◌-◌}
use mathlib.Core.Bool.{true, false, ◌||◌}
use mathlib.Core.List.{List, []}
use mathlib.Core.Option.{none, some}
use mathlib.Core.Path.{◌≡◌, ap}
use native.Mathlib.Omega.{arith}
use lib.Dec.{eqb, ltb}
use lib.ListN.{length}
use Rattle.description.specs.Binds.{binds}
use Rattle.description.specs.Check.{parsed, stopped, nodes_from, tree_refusal, Meaning, accepted, refused, meaning, verdict, checked}
use Rattle.description.specs.Limits.{most_bytes, most_nodes, most_binds}
use Rattle.description.specs.Nodes.{Node}
use Rattle.description.specs.Refusals.{verdict_number, verdict_node}
use Rattle.description.specs.Trees.{root_tree}
use Rattle.description.specs.declared.Refusal.TheVariants.{EmptyOrTooLong}
use Rattle.description.proofs.Enclosing.{few-binds}

-- What a description meant: what one still can mean, or 11, "more than 31 binds around one node", with "the root".
pub data Meant : Type 0 where
  still : Meaning → Meant
  too_many_binds : (root : ℕ) → Meant

-- "9, 10, 11", of nodes that were parsed.
unfoldable pub tree_before : List Node → Meant
tree_before nodes =
    elim (tree_refusal nodes) [
      | some r ↦ still (refused r)  -- 9, 10
      | none ↦
          elim (ltb most_binds (binds (root_tree nodes))) [
            | true ↦ too_many_binds (length nodes - 1)  -- 11
            | false ↦ still (accepted (root_tree nodes))
          ]
    ]

unfoldable pub meaning_before : List ℕ → Meant
meaning_before desc =
    elim (eqb (length desc) 0 || ltb most_bytes (length desc)) [
      | true ↦ still (refused EmptyOrTooLong)
      | false ↦ elim (nodes_from desc most_nodes [] 0) [ stopped r ↦ still (refused r) | parsed nodes ↦ tree_before nodes ]
    ]

-- The number of the refusal, or 0, and the node given.
abbrev pub number_before : Meant → ℕ
number_before (still m) = verdict_number (verdict m)
number_before (too_many_binds root) = 11

abbrev pub node_before : Meant → ℕ
node_before (still m) = verdict_node (verdict m)
node_before (too_many_binds root) = root

-- Every byte string means what it meant with 11 among the refusals.
pub same-meaning : (desc : List ℕ) → meaning_before desc ≡ still (meaning desc)
unfolding meaning_before tree_before meaning
same-meaning desc = grind (arith, few-binds)

-- So 11 was never given,
pub never_11 : (desc : List ℕ) (root : ℕ) → meaning_before desc ≡ too_many_binds root → ⊥
never_11 desc root e = let z : ◌≡◌ {A = ℕ} 0 1 = cc (same-meaning desc) in omega arith

-- and the check says the number and the node that it said.
pub same_answer : (desc : List ℕ)
    → (number_before (meaning_before desc) ≡ verdict_number (checked desc)) × (node_before (meaning_before desc) ≡ verdict_node (checked desc))
unfolding checked
same_answer desc = (ap number_before (same-meaning desc), ap node_before (same-meaning desc))

-- What the tests of all nodes together say, and what the description then means.
use Prim.Native.Nat.{ℕ, suc, ◌-◌, ◌≤◌, ◌<◌}
use mathlib.Core.Bool.{Bool}
use mathlib.Core.List.{List}
use mathlib.Core.Path.{◌≡◌, ap}
use native.Mathlib.Omega.{arith}
use lib.ListN.{length}
use Rattle.std.specs.Prelude.{Some, None, Ok, Err, not, position, take}
use Rattle.description.specs.Binds.{needs}
use Rattle.description.specs.Check.{refuse_if, first_of, named_by, never_named, tree_refusal}
use Rattle.description.specs.Inner.Names.{Marks}
use Rattle.description.specs.Inner.Steps.{judged}
use Rattle.description.specs.Limits.{most_nodes}
use Rattle.description.specs.Places.{nodes_to, tree_of}
use Rattle.description.specs.Trees.{root_tree}
use Rattle.description.specs.declared.Refusal.TheVariants.{NeverNamed, NoEnclosingBind}
use Rattle.description.proofs.Marking.{refusal_of, unmarked-unnamed}
use Rattle.description.proofs.Numbered.{nodes-length}

-- a parse that reached the end, with n nodes
module _ (d : List ℕ) (flags : List Bool) (n : ℕ) (few : n ≤ most_nodes) (h : 0 < n) (marks : Marks flags (named_by (nodes_to d n))) where
  root_is : length (nodes_to d n) - 1 ≡ n - 1
  root_is = omega (arith, nodes-length d n)

  pub tree_is : root_tree (nodes_to d n) ≡ tree_of d (n - 1)
  unfolding tree_of
  tree_is = let e : n ≡ suc (n - 1) = omega arith in ap (λ (k : ℕ). root_tree (nodes_to d k)) e

  unnamed-is : never_named (named_by (nodes_to d n)) 0 (length (nodes_to d n) - 1) ≡ refusal_of (position not (take (n - 1) flags))
  unnamed-is = rw root_is (unmarked-unnamed flags (named_by (nodes_to d n)) (n - 1) marks (omega arith))

  pub judge_9 : (i : ℕ) → position not (take (n - 1) flags) ≡ Some i → judged (nodes_to d n) ≡ Err (NeverNamed i)
  unfolding judged tree_refusal first_of refusal_of
  judge_9 i a = grind (arith, unnamed-is)

  module _ (a : position not (take (n - 1) flags) ≡ None) where
    pub judge_10 : 0 < needs (tree_of d (n - 1)) → judged (nodes_to d n) ≡ Err (NoEnclosingBind (n - 1))
    unfolding judged tree_refusal first_of refuse_if refusal_of
    judge_10 b = grind (arith, unnamed-is, root_is, tree_is)

    pub judge_clear : needs (tree_of d (n - 1)) ≤ 0 → judged (nodes_to d n) ≡ Ok n
    unfolding judged tree_refusal first_of refuse_if refusal_of
    judge_clear b = grind (arith, unnamed-is, tree_is, nodes-length)

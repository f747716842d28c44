-- The tree that an accepted description means is sound.
use Prim.Native.Nat.{ℕ, zero, suc, ◌-◌, ◌<◌}
use mathlib.Core.List.{List, [], ◌∷◌, ◌++◌, Forall₂}
use mathlib.Core.Option.{none}
use mathlib.Core.Path.{◌≡◌, refl, sym, subst}
use mathlib.Mathlib.Data.List.Forall2.{rel-append}
use native.Mathlib.Omega.{arith}
use lib.ListN.{length, get_or}
use Rattle.description.specs.Check.{node_at, node_refusal, accepted, meaning}
use Rattle.description.specs.Nodes.{Node, is_number}
use Rattle.description.specs.Places.{start, nodes_to, Stands}
use Rattle.description.specs.Trees.{Tree, unit, trees_after, root_tree}
use Rattle.description.proofs.Reached.{accepted-nodes}
use Rattle.description.proofs.Trees.{next, trees_snoc}
use Rattle.promises.proofs.Sound.{Sound}
use Rattle.promises.proofs.SoundNodes.{Fair, node_fair}

-- each node with its tree
abbrev AllFair : List Node → List Tree → Type 0
AllFair = Forall₂ Fair

-- a node by its number, with its tree; past the last of them stands a unit, in both lists
fair_at : (ns : List Node) (ts : List Tree) → AllFair ns ts → (k : ℕ) → Fair (get_or ns k Node.unit) (get_or ts k (unit 0))
unfolding is_number
fair_at ns ts Forall₂.nil k = (refl, tt)
fair_at ns ts (Forall₂.cons h fair) zero = h
fair_at ns ts (Forall₂.cons {l₁ = ns'} {l₂ = ts'} h fair) (suc k) = fair_at ns' ts' fair k

module _ (desc : List ℕ) where
  -- one node more
  fair_next : (before : List Node) (i : ℕ) → AllFair before (trees_after [] before) → node_refusal desc before i ≡ none
      → AllFair (before ++ (node_at desc i ∷ [])) (trees_after [] (before ++ (node_at desc i ∷ [])))
  unfolding next
  fair_next before i fair e =
      let ts = trees_after [] before in
      rw (trees_snoc [] before (node_at desc i))
      (rel-append before ts fair _ _
      (Forall₂.cons (node_fair desc before (λ c. get_or ts c (unit 0)) (length ts) (fair_at before ts fair) i e) Forall₂.nil))

  -- and so all that stand
  fair_to : (n : ℕ) → ((k : ℕ) → k < n → Stands desc k) → AllFair (nodes_to desc n) (trees_after [] (nodes_to desc n))
  unfolding nodes_to
  fair_to zero stand = unfold trees_after in Forall₂.nil
  fair_to (suc n) stand = fair_next (nodes_to desc n) (start desc n) (fair_to n (λ k h. stand k (omega arith))) (stand n (omega arith)).clear

-- The tree that an accepted description means has listed widths, and a number node wherever a bind or a where wants one.
pub accepted-sound : (desc : List ℕ) (t : Tree) → meaning desc ≡ accepted t → Sound t
unfolding root_tree
accepted-sound desc t e =
    let a = accepted-nodes desc t e in
    let fair = subst (λ ns. AllFair ns (trees_after [] ns)) (sym a.first.are) (fair_to desc (length a.nodes) a.first.stand) in
    subst Sound (sym a.root) (fair_at a.nodes (trees_after [] a.nodes) fair (length a.nodes - 1)).1

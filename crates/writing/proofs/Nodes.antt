-- The nodes of a description that is accepted are the first so many.
use Prim.Native.Nat.{ℕ}
use mathlib.Core.List.{List, []}
use mathlib.Core.Path.{◌≡◌, refl, sym, ap, ◌∙◌}
use native.Mathlib.Omega.{arith}
use Rattle.std.specs.Prelude.{Ok}
use Rattle.description.specs.Check.{parsed, stopped, nodes_from, Meaning, accepted, refused, meaning}
use Rattle.description.specs.Examine.{examined}
use Rattle.description.specs.Limits.{most_nodes}
use Rattle.description.specs.Places.{nodes_to, standing}
use Rattle.description.specs.Trees.{Tree}
use Rattle.description.specs.declared.Refusal.{Refusal}
use Rattle.description.proofs.Reached.{Accepted, accepted-nodes}
use Rattle.writing.specs.Fields.{nodes_of}

-- They are what it was parsed to,
pub nodes_of_lem : (desc : List ℕ) (t : Tree) (a : Accepted desc t) → nodes_of desc ≡ a.nodes
unfolding nodes_of
nodes_of_lem desc t a = ap (λ p. elim p [ parsed nodes ↦ nodes | stopped r ↦ [] ]) a.reached

standing-are : (desc : List ℕ) (n : ℕ) (t : Tree) → examined desc ≡ Ok n → meaning desc ≡ accepted t → standing (nodes_from desc most_nodes [] 0) ≡ n
unfolding examined
standing-are desc n t e means = grind arith

not-refused : (desc : List ℕ) (n : ℕ) (r : Refusal) → examined desc ≡ Ok n → meaning desc ≡ refused r → ⊥
unfolding examined
not-refused desc n r e means = grind arith

-- and as many as the examination says.
pub nodes-are : (desc : List ℕ) (n : ℕ) → examined desc ≡ Ok n → nodes_of desc ≡ nodes_to desc n
unfolding standing
nodes-are desc n e = go (meaning desc) refl
  where
    go : (m : Meaning) → meaning desc ≡ m → nodes_of desc ≡ nodes_to desc n
    go (accepted t) means =
        let a = accepted-nodes desc t means in
        nodes_of_lem desc t a ∙ a.first.are ∙ ap (nodes_to desc) (sym (ap standing a.reached) ∙ standing-are desc n t e means)
    go (refused r) means = absurd (not-refused desc n r e means)

-- The nodes of a parse that reaches the end of a description are the first so many, and all of them stand; an accepted description was so parsed.
use Prim.Native.Nat.{ℕ, zero, suc, ◌+◌, ◌≤◌, ◌<◌}
use mathlib.Core.Bool.{false, ◌||◌}
use mathlib.Core.List.{List, []}
use mathlib.Core.Option.{none, some}
use mathlib.Core.Path.{◌≡◌, refl, sym, ap, subst}
use native.Mathlib.Decide.{ℕ_discrete}
use native.Mathlib.Omega.{arith}
use lib.Dec.{eqb, ltb}
use lib.ListN.{length}
use borrow.Author.Tests.{ltb-true, ltb-false, eqb-false}
use Rattle.description.specs.Check.{node_refusal, Parsed, parsed, stopped, nodes_from, tree_refusal, Meaning, accepted, refused, meaning}
use Rattle.description.specs.Limits.{most_bytes, most_nodes}
use Rattle.description.specs.Nodes.{Node}
use Rattle.description.specs.Places.{start, nodes_to, Stands}
use Rattle.description.specs.Trees.{Tree, root_tree}
use Rattle.std.proofs.lemmas.Bool.{or_parts}
use Rattle.description.proofs.Choice.{by_test, by_search}
use Rattle.description.proofs.Numbered.{nodes-length}

-- One node more that stands.
pub stand-next : (d : List ℕ) (n : ℕ) → ((k : ℕ) → k < n → Stands d k) → Stands d n → (k : ℕ) → k < suc n → Stands d k
stand-next d n before s k h = go (ℕ_discrete k n)
  where
    go : Dec (k ≡ n) → Stands d k
    go (yes same) = rw same s
    go (no other) = before k (omega arith)

-- What a parse has found that reaches the end, with `most` nodes at most: the first so many, all of which stand.
pub record First (d : List ℕ) (most : ℕ) (nodes : List Node) : Type 0 where
  pub are : nodes ≡ nodes_to d (length nodes)
  pub few : length nodes ≤ most
  pub stand : (k : ℕ) → k < length nodes → Stands d k
  pub ends : length d ≤ start d (length nodes)

module _ (d : List ℕ) (most : ℕ) where
  abbrev Reached : Parsed → Type 0
  Reached (parsed nodes) = First d most nodes
  Reached (stopped r) = Unit

  so_far : (n : ℕ) → n ≤ most → ((k : ℕ) → k < n → Stands d k) → ltb (start d n) (length d) ≡ false → First d most (nodes_to d n)
  so_far n few stand f =
      record {
        are = ap (nodes_to d) (sym (nodes-length d n));
        few = omega (arith, nodes-length d n);
        stand = λ k h. stand k (omega (arith, nodes-length d n));
        ends = rw (nodes-length d n) (ltb-false (start d n) (length d) f);
      }

  first-from : (left n : ℕ) → n + left ≤ most → ((k : ℕ) → k < n → Stands d k) → Reached (nodes_from d left (nodes_to d n) (start d n))
  unfolding nodes_from nodes_to start
  first-from zero n few stand = by_test Reached (ltb (start d n) (length d)) (λ t. tt) (so_far n (omega arith) stand)
  first-from (suc left) n few stand =
      by_test Reached (ltb (start d n) (length d))
      (λ t.
      by_search Reached (node_refusal d (nodes_to d n) (start d n))
      (λ e. first-from left (suc n) (omega arith) (stand-next d n stand (record { begins = ltb-true (start d n) (length d) t; clear = e })))
      (λ r e. tt))
      (so_far n (omega arith) stand)

  pub first-nodes : (nodes : List Node) → nodes_from d most [] 0 ≡ parsed nodes → First d most nodes
  unfolding nodes_to start
  first-nodes nodes e = subst Reached e (first-from most 0 (omega arith) (λ k h. absurd (omega arith)))

-- What a description was parsed to that is accepted: one node at least, the last of them the root of the tree that is meant.
pub record Accepted (d : List ℕ) (t : Tree) : Type 0 where
  pub nodes : List Node
  pub reached : nodes_from d most_nodes [] 0 ≡ parsed nodes
  pub first : First d most_nodes nodes
  pub some-node : 0 < length nodes
  pub root : t ≡ root_tree nodes

module _ (d : List ℕ) where
  abbrev Said : Meaning → Type 0
  Said (accepted t) = Accepted d t
  Said (refused r) = Unit

  said : Said (meaning d)
  unfolding meaning start
  said =
      by_test Said (eqb (length d) 0 || ltb most_bytes (length d)) (λ t. tt)
      (λ f. go (eqb-false (length d) 0 (or_parts (eqb (length d) 0) (ltb most_bytes (length d)) f).0) (nodes_from d most_nodes [] 0) refl)
    where
      one : (n : ℕ) → (length d ≡ 0 → ⊥) → length d ≤ start d n → 0 < n
      one zero some_byte ends = absurd (some_byte (omega arith))
      one (suc n) some_byte ends = omega arith

      go : (length d ≡ 0 → ⊥) → (p : Parsed) → nodes_from d most_nodes [] 0 ≡ p
          → Said
          (elim p [
            | stopped r ↦ refused r
            | parsed nodes ↦ elim (tree_refusal nodes) [ some r ↦ refused r | none ↦ accepted (root_tree nodes) ]
          ])
      go some_byte (stopped r) e = tt
      go some_byte (parsed nodes) e =
          let first = first-nodes d most_nodes nodes e in
          by_search Said (tree_refusal nodes)
          (λ c. record { nodes = nodes; reached = e; first = first; some-node = one (length nodes) some_byte first.ends; root = refl })
          (λ r c. tt)

  pub accepted-nodes : (t : Tree) → meaning d ≡ accepted t → Accepted d t
  accepted-nodes t e = subst Said e said

-- What is known of a node where it is visited: where its kind byte, its body and its children are, and what its tree needs.
use Prim.Native.Nat.{ℕ, ◌+◌, ◌-◌, ◌≤◌, ◌<◌}
use mathlib.Core.Bool.{true, false}
use mathlib.Core.List.{List}
use mathlib.Core.Path.{◌≡◌, sym, ap, ◌∙◌}
use borrow.Author.Tests.{leb-false, ltb-false, not-false}
use native.Mathlib.Omega.{arith}
use lib.ListN.{length, take}
use Rattle.std.proofs.lemmas.List.{get_or-take, length-take}
use Rattle.description.specs.Binds.{needs, binds}
use Rattle.description.specs.Bodies.{child_count}
use Rattle.description.specs.Inner.Children.{children_at, own_needs}
use Rattle.description.specs.Check.{some_not_smaller, node_at, node_end}
use Rattle.description.specs.Kinds.{byte, kinds, row_of}
use Rattle.description.specs.Limits.{most_bytes, most_nodes}
use Rattle.description.specs.Nodes.{children}
use Rattle.description.specs.Places.{start, nodes_to, kind_of, field_of, tree_of, Stands, Found, Known, Placed}
use Rattle.description.proofs.Rows.{count-bytes, child-smaller}
use Rattle.description.proofs.Numbered.{nodes-length}
use Rattle.description.proofs.Refusing.{Passed, passed}
use Rattle.description.specs.Trees.{tree}
use Rattle.description.proofs.Trees.{tree_of_lem}
use Rattle.description.proofs.Walking.{walk, needs-walk, binds-walk}

-- the nodes that were found
pub found-placed : (d starts : List ℕ) (n k : ℕ) → length d ≤ most_bytes → n ≤ most_nodes → Found d starts n → k < n → Placed d starts k
found-placed d starts n k short few found h =
    record {
      short = short;
      few = omega arith;
      found = record { room = found.room; placed = λ m l. found.placed m (omega arith); stand = λ m l. found.stand m (omega arith) };
    }

-- the tests that a node that stands has passed
module _ (d : List ℕ) (node : ℕ) (s : Stands d node) where
  pub tests : Passed d (nodes_to d node) (start d node)
  tests = passed d (nodes_to d node) (start d node) s.clear

  pub smaller : some_not_smaller node (children (node_at d (start d node))) ≡ false
  smaller = sym (ap (λ (n : ℕ). some_not_smaller n (children (node_at d (start d node)))) (nodes-length d node)) ∙ tests.smaller

-- and in the front of `starts`, for whoever visits them
module _ (d starts : List ℕ) (n : ℕ) (few : n ≤ most_nodes) (found : Found d starts n) where
  pub found-length : length (take n starts) ≡ n
  found-length = grind (arith, length-take, found.room)

  pub found-known : (k : ℕ) → k < length (take n starts) → Known d (take n starts) k
  found-known k h =
      let l : k < n = omega (arith, found-length) in
      record { few = omega arith; begins = get_or-take n starts k 0 l ∙ found.placed k l; stands = found.stand k l }

module _ (d starts : List ℕ) (node : ℕ) (p : Known d starts node) where
  -- its kind byte is in the table
  pub kind_below : kind_of d node < length kinds
  unfolding kind_of
  kind_below = leb-false (length kinds) (byte d (start d node)) (tests d node p.stands).kind

  pub body_inside : start d node + 1 + (row_of (kind_of d node)).bytes ≤ length d
  unfolding node_end kind_of
  body_inside = ltb-false (length d) (node_end d (start d node)) (tests d node p.stands).whole

  -- its width, relation, operator and operands are listed
  pub listed_here : (row_of (kind_of d node)).listed d (start d node + 1) ≡ true
  unfolding kind_of
  listed_here = not-false ((row_of (kind_of d node)).listed d (start d node + 1)) (tests d node p.stands).listed

  -- its child at place j
  module _ (j : ℕ) (h : j < child_count (kind_of d node)) where
    pub child-field : j < (row_of (kind_of d node)).bytes
    child-field = omega (arith, count-bytes (kind_of d node))

    pub child-below : field_of d node j < node
    unfolding kind_of field_of
    child-below = child-smaller d (start d node) node j (smaller d node p.stands) h

  -- its tree, by its kind byte
  pub tree-here : tree_of d node ≡ tree (tree_of d) node ((row_of (kind_of d node)).node d (start d node + 1))
  unfolding node_at kind_of
  tree-here = tree_of_lem d node (smaller d node p.stands)

  -- what its tree needs, and the binds in it, by its children
  pub needs-here : needs (tree_of d node) ≡ walk (kind_of d node) ◌-◌ (λ c. needs (tree_of d c)) (own_needs d (kind_of d node) (start d node + 1)) 0 (children_at d (start d node + 1) (child_count (kind_of d node)))
  needs-here = rw tree-here (needs-walk d (tree_of d) node (start d node + 1) (kind_of d node))

  pub binds-here : binds (tree_of d node) ≡ walk (kind_of d node) ◌+◌ (λ c. binds (tree_of d c)) 0 0 (children_at d (start d node + 1) (child_count (kind_of d node)))
  binds-here = rw tree-here (binds-walk d (tree_of d) node (start d node + 1) (kind_of d node))

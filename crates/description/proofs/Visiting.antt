-- What a visitor of a node rests on: the tree that its kind byte makes of its body, the widths that are listed, and the binds that it and its
-- children need and have around them.
use Prim.Native.Nat.{ℕ, ◌+◌, ◌-◌, ◌≤◌, ◌<◌}
use mathlib.Core.Bool.{true}
use mathlib.Core.List.{List, [], ◌∷◌}
use mathlib.Core.Path.{◌≡◌, refl, sym, ap, subst, ◌∙◌}
use native.Mathlib.Nat.{add-zero}
use native.Mathlib.Omega.{arith}
use lib.ListN.{get_or, get_or-eq_default}
use Rattle.description.specs.Binds.{needs_of, needs, binds}
use Rattle.description.specs.Bodies.{child_count}
use Rattle.description.specs.Inner.Children.{binding, own_needs}
use Rattle.description.specs.Kinds.{byte, is_width, is_signed_width, is_relation, relation, is_operator, operator, unit_row, kinds, row_of}
use Rattle.description.specs.Places.{start, kind_of, field_of, operand_of, tree_of, Known}
use Rattle.description.specs.Trees.{Tree, unit, bottom, bits, signed, then, bind, either, both, where', sequence, compute, absorb, scan, tree}
use Rattle.description.proofs.Bodies.{row-past}
use Rattle.std.proofs.lemmas.Bool.{and_parts}
use Rattle.description.proofs.Ranges.{between, by_kind}
use Rattle.description.proofs.Standing.{listed_here, child-below, tree-here, needs-here, binds-here}
use Rattle.description.proofs.Walking.{walk-child}

-- A width that is listed.
pub width_listed : (w : ℕ) → is_width w ≡ true → (1 ≤ w) × (w ≤ 32)
unfolding is_width
width_listed w e = (grind arith, grind arith)

pub signed-listed : (w : ℕ) → is_signed_width w ≡ true → (1 ≤ w) × (w ≤ 32)
unfolding is_signed_width
signed-listed w e = (grind arith, grind arith)

module _ (d : List ℕ) (node : ℕ) where
  -- the tree of the node's child at place j
  abbrev pub child_tree : ℕ → Tree
  child_tree j = tree_of d (field_of d node j)

  -- the trees of a node of kinds 00 to 0C
  abbrev pub trees_as : List Tree
  trees_as =
      unit node
      ∷ bottom node
      ∷ bits node (field_of d node 0)
      ∷ signed node (field_of d node 0)
      ∷ then node (child_tree 0) (child_tree 1)
      ∷ bind node (child_tree 0) (child_tree 1)
      ∷ either node (child_tree 0) (child_tree 1)
      ∷ both node (child_tree 0) (child_tree 1)
      ∷ where' node (child_tree 0) (relation (field_of d node 1)) (operand_of d node 2)
      ∷ sequence node (child_tree 0) (child_tree 1) (child_tree 2) (operand_of d node 3)
      ∷ compute node (field_of d node 0) (operator (field_of d node 1)) (operand_of d node 2) (operand_of d node 7)
      ∷ absorb node (child_tree 0)
      ∷ scan node (child_tree 0)
      ∷ []

  abbrev pub tree_as : ℕ → Tree
  tree_as kind = get_or trees_as kind (unit node)

  abbrev AsRow : ℕ → Type 0
  AsRow kind = tree (tree_of d) node ((row_of kind).node d (start d node + 1)) ≡ tree_as kind

  as_row : (kind : ℕ) → AsRow kind
  unfolding tree row_of kinds unit_row field_of operand_of
  as_row =
      by_kind AsRow refl refl (at (bits node)) (at (signed node)) (pair then) (pair bind) (pair either) (pair both)
      (at (λ b. where' node (tree_of d b) (relation (field_of d node 1)) (operand_of d node 2)))
      (at (λ b. sequence node (tree_of d b) (child_tree 1) (child_tree 2) (operand_of d node 3)))
      (at (λ b. compute node b (operator (field_of d node 1)) (operand_of d node 2) (operand_of d node 7)))
      (at (λ b. absorb node (tree_of d b))) (at (λ b. scan node (tree_of d b)))
      past
    where
      -- the first byte of the body
      at : (f : ℕ → Tree) → f (byte d (start d node + 1)) ≡ f (byte d (start d node + 1 + 0))
      at f = ap (λ (i : ℕ). f (byte d i)) (sym (add-zero (start d node + 1)))

      pair : (f : ℕ → Tree → Tree → Tree) → f node (tree_of d (byte d (start d node + 1))) (child_tree 1) ≡ f node (child_tree 0) (child_tree 1)
      pair f = at (λ b. f node (tree_of d b) (child_tree 1))

      past : (k : ℕ) → 13 ≤ k → AsRow k
      past k h = rw (row-past k h) (sym (get_or-eq_default trees_as (unit node) h))

module _ (d starts : List ℕ) (node : ℕ) (p : Known d starts node) where
  pub tree_is : (kind : ℕ) → kind_of d node ≡ kind → tree_of d node ≡ tree_as d node kind
  tree_is kind e = tree-here d starts node p ∙ as_row d node (kind_of d node) ∙ ap (tree_as d node) e

  -- the binds that its child at place j has in it and needs around it
  module _ (j : ℕ) (h : j < child_count (kind_of d node)) where
    pub child-binds : binds (child_tree d node j) + binding (kind_of d node) j ≤ binds (tree_of d node)
    unfolding field_of
    child-binds =
        rw (binds-here d starts node p)
        (walk-child d (kind_of d node) ◌+◌ (λ c. binds (tree_of d c)) 0 (start d node + 1) (child_count (kind_of d node)) j h)

    pub child-needs : needs (child_tree d node j) - binding (kind_of d node) j ≤ needs (tree_of d node)
    unfolding field_of
    child-needs =
        rw (needs-here d starts node p)
        (walk-child d (kind_of d node) ◌-◌ (λ c. needs (tree_of d c)) (own_needs d (kind_of d node) (start d node + 1)) (start d node + 1) (child_count (kind_of d node)) j h)

  -- the binds that its operands need
  pub where_needs : kind_of d node ≡ 8 → needs_of (operand_of d node 2) ≤ needs (tree_of d node)
  unfolding needs
  where_needs e = rw (tree_is 8 e) (omega arith)

  pub sequence-needs : kind_of d node ≡ 9 → needs_of (operand_of d node 3) ≤ needs (tree_of d node)
  unfolding needs
  sequence-needs e = rw (tree_is 9 e) (omega arith)

  pub compute-needs : kind_of d node ≡ 10 → (needs_of (operand_of d node 2) ≤ needs (tree_of d node)) × (needs_of (operand_of d node 7) ≤ needs (tree_of d node))
  unfolding needs
  compute-needs e = rw (tree_is 10 e) (omega arith)

  -- a body has as many bytes as its kind has
  pub body_bytes : (kind n : ℕ) → kind_of d node ≡ kind → n ≤ (row_of kind).bytes → n ≤ (row_of (kind_of d node)).bytes
  body_bytes kind n e h = rw e h

  pub child-smaller : (j : ℕ) → j < child_count (kind_of d node) → field_of d node j < node
  child-smaller j h = child-below d starts node p j h

  -- the widths of bits, signed and compute
  listed_as : (kind : ℕ) → kind_of d node ≡ kind → (row_of kind).listed d (start d node + 1) ≡ true
  listed_as kind e = subst (λ (k : ℕ). (row_of k).listed d (start d node + 1) ≡ true) e (listed_here d starts node p)

  range : (1 ≤ byte d (start d node + 1)) × (byte d (start d node + 1) ≤ 32) → (1 ≤ field_of d node 0) × (field_of d node 0 ≤ 32)
  unfolding field_of
  range h = rw (add-zero (start d node + 1)) h

  pub number-range : (kind : ℕ) → kind_of d node ≡ kind → 2 ≤ kind → kind < 4 → (1 ≤ field_of d node 0) × (field_of d node 0 ≤ 32)
  unfolding row_of kinds
  number-range kind e low high =
      between (λ k. kind_of d node ≡ k → (1 ≤ field_of d node 0) × (field_of d node 0 ≤ 32)) 2 2
      ((λ e. range (width_listed (byte d (start d node + 1)) (listed_as 2 e))), ((λ e. range (signed-listed (byte d (start d node + 1)) (listed_as 3 e))), tt))
      kind low high e

  pub number_width : (kind : ℕ) → kind_of d node ≡ kind → 2 ≤ kind → kind < 4 → field_of d node 0 ≤ 32
  number_width kind e low high = (number-range kind e low high).1

  -- the relation of a where, and the operator of a compute
  pub relation-listed : kind_of d node ≡ 8 → is_relation (field_of d node 1) ≡ true
  unfolding row_of kinds field_of
  relation-listed e = (and_parts _ _ (listed_as 8 e)).0

  pub operator-listed : kind_of d node ≡ 10 → is_operator (field_of d node 1) ≡ true
  unfolding row_of kinds field_of
  operator-listed e = (and_parts _ _ (and_parts _ _ (and_parts _ _ (listed_as 10 e)).0).0).1

  few : byte d (start d node + 1) ≤ 32 → field_of d node 0 ≤ 32
  unfolding field_of
  few h = rw (add-zero (start d node + 1)) h

  pub compute_width : kind_of d node ≡ 10 → field_of d node 0 ≤ 32
  unfolding row_of kinds
  compute_width e =
      few (width_listed (byte d (start d node + 1)) (and_parts _ _ (and_parts _ _ (and_parts _ _ (listed_as 10 e)).0).0).0).1

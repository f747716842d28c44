-- The tree of a node that passed its tests is sound where the trees of the nodes before it are.
use Prim.Native.Nat.{ℕ, ◌+◌, ◌≤◌}
use mathlib.Core.Bool.{true, false, not}
use mathlib.Core.List.{List, ◌∷◌}
use mathlib.Core.Option.{none}
use mathlib.Core.Path.{◌≡◌, refl, ◌∙◌}
use lib.ListN.{get_or, get_or-eq_default}
use borrow.Author.Tests.{not-false}
use Rattle.description.specs.Check.{some_no_number, node_at, node_refusal}
use Rattle.description.specs.Kinds.{byte, unit_row, kinds, row_of}
use Rattle.description.specs.Nodes.{Node, unit, bottom, bits, signed, then, bind, either, both, where', sequence, compute, absorb, scan, is_number, must_be_numbers}
use Rattle.description.specs.Trees.{Tree, tree}
use Rattle.std.proofs.lemmas.Bool.{and_parts, or_parts}
use Rattle.description.proofs.Ranges.{by_kind}
use Rattle.description.proofs.Refusing.{passed}
use Rattle.description.proofs.Visiting.{width_listed, signed-listed}
use Rattle.promises.proofs.Sound.{is_number_tree, Sound}

-- a node's tree is a number's where the node is a number
number-tree : (child : ℕ → Tree) (n : ℕ) (node : Node) → is_number_tree (tree child n node) ≡ is_number node
unfolding tree is_number
number-tree child n unit = refl
number-tree child n bottom = refl
number-tree child n (bits w) = refl
number-tree child n (signed w) = refl
number-tree child n (then a b) = refl
number-tree child n (bind a b) = refl
number-tree child n (either a b) = refl
number-tree child n (both a b) = refl
number-tree child n (where' a r x) = refl
number-tree child n (sequence e s t x) = refl
number-tree child n (compute w f x y) = refl
number-tree child n (absorb a) = refl
number-tree child n (scan a) = refl

-- a sound tree, that is a number's where its node is a number
abbrev pub Fair : Node → Tree → Type 0
Fair node t = (is_number_tree t ≡ is_number node) × Sound t

module _ (desc : List ℕ) (before : List Node) where
  -- trees for the nodes before
  module _ (child : ℕ → Tree) (n : ℕ) (fair : (c : ℕ) → Fair (get_or before c unit) (child c)) where
    sound : (c : ℕ) → Sound (child c)
    sound c = (fair c).1

    -- a child that must be a number
    wanted-number : (c : ℕ) (cs : List ℕ) → some_no_number before (c ∷ cs) ≡ false → is_number_tree (child c) ≡ true
    unfolding some_no_number
    wanted-number c cs e =
        let is = is_number (get_or before c unit) in
        (fair c).0 ∙ not-false is (or_parts (not is) (some_no_number before cs) e).0

    -- the tree of the node that a kind's row makes of the body at byte i, by what was tested of it
    abbrev RowSound : (i kind : ℕ) → Type 0
    RowSound i kind =
        let node = (row_of kind).node desc i in
        (row_of kind).listed desc i ≡ true → some_no_number before (must_be_numbers node) ≡ false → Sound (tree child n node)

    row-sound : (i kind : ℕ) → RowSound i kind
    unfolding row_of kinds unit_row must_be_numbers tree
    row-sound i =
        by_kind (RowSound i) (λ l m. tt) (λ l m. tt) (λ l m. width_listed _ l) (λ l m. signed-listed _ l)
        (λ l m. (sound _, sound _)) (λ l m. (wanted-number _ _ m, sound _, sound _)) (λ l m. (sound _, sound _)) (λ l m. (sound _, sound _))
        (λ l m. (wanted-number _ _ m, sound _)) (λ l m. (sound _, sound _, sound _))
        (λ l m. (width_listed _ (and_parts _ _ (and_parts _ _ (and_parts _ _ l).0).0).0).1) (λ l m. sound _) (λ l m. sound _)
        past
      where
        past : (k : ℕ) → 13 ≤ k → RowSound i k
        past k h = rw (get_or-eq_default kinds unit_row h) (λ l m. tt)

    -- the tree of the node that begins at byte i
    pub node_fair : (i : ℕ) → node_refusal desc before i ≡ none → Fair (node_at desc i) (tree child n (node_at desc i))
    unfolding node_at
    node_fair i e =
        let tests = passed desc before i e in
        (number-tree child n (node_at desc i), row-sound (i + 1) (byte desc i) (not-false ((row_of (byte desc i)).listed desc (i + 1)) tests.listed) tests.number)

-- What the node that begins at a byte has for children, and which of them must be numbers, by its kind byte.
use Prim.Native.Nat.{ℕ, zero, suc, ◌+◌, ◌≤◌, ◌<◌, zero-le}
use mathlib.Core.Bool.{false}
use mathlib.Core.List.{List, [], ◌∷◌}
use mathlib.Core.Path.{◌≡◌, refl, sym, ap, ◌∙◌}
use native.Mathlib.Numerals.{add-one}
use native.Mathlib.Omega.{arith}
use lib.Dec.{lit≤}
use lib.ListN.{length, take, drop, get_or}
use lib.Seq.{drop-cons}
use Rattle.std.proofs.lemmas.List.{take-take}
use borrow.Author.Tests.{ne_eqb}
use Rattle.description.specs.Bodies.{child_counts, child_count, is_number_kind}
use Rattle.description.specs.Inner.Children.{children_at, number_children}
use Rattle.description.specs.Check.{some_not_smaller, node_at}
use Rattle.description.specs.Kinds.{byte, unit_row, kinds, row_of}
use Rattle.description.specs.Nodes.{children, is_number, must_be_numbers}
use Rattle.description.proofs.Bodies.{row-past, no_children}
use Rattle.description.proofs.Children.{children-smaller}
use Rattle.description.proofs.Ranges.{by_kind}

module _ (d : List ℕ) (i : ℕ) where
  children-row : (k : ℕ) → children ((row_of k).node d i) ≡ children_at d i (child_count k)
  unfolding children row_of kinds unit_row child_count child_counts children_at
  children-row =
      by_kind (λ k. children ((row_of k).node d i) ≡ children_at d i (child_count k)) refl refl refl refl refl refl refl refl refl third refl refl refl past
    where
      third : byte d i ∷ byte d (i + 1) ∷ byte d (i + 2) ∷ [] ≡ byte d i ∷ byte d (i + 1) ∷ byte d (i + 1 + 1) ∷ []
      third = let e : i + 2 ≡ i + 1 + 1 = omega arith in ap (λ (p : ℕ). byte d i ∷ byte d (i + 1) ∷ byte d p ∷ []) e

      past : (k : ℕ) → 13 ≤ k → children ((row_of k).node d i) ≡ children_at d i (child_count k)
      past k h = rw (row-past k h) (sym (ap (children_at d i) (no_children k h)))

  number-row : (k : ℕ) → is_number ((row_of k).node d i) ≡ is_number_kind k
  unfolding is_number row_of kinds unit_row is_number_kind
  number-row =
      by_kind (λ k. is_number ((row_of k).node d i) ≡ is_number_kind k) refl refl refl refl refl refl refl refl refl refl refl refl refl past
    where
      past : (k : ℕ) → 13 ≤ k → is_number ((row_of k).node d i) ≡ is_number_kind k
      past k h =
          rw (row-past k h, ne_eqb k 2 (omega arith), ne_eqb k 3 (omega arith), ne_eqb k 8 (omega arith), ne_eqb k 10 (omega arith))

  -- a bind or a where asks its first child to be a number, and no other kind asks anything
  number_children-row : (k : ℕ) → number_children k (children ((row_of k).node d i)) ≡ must_be_numbers ((row_of k).node d i)
  unfolding children must_be_numbers row_of kinds unit_row number_children
  number_children-row =
      by_kind (λ k. number_children k (children ((row_of k).node d i)) ≡ must_be_numbers ((row_of k).node d i)) refl refl refl refl refl refl refl refl refl refl refl refl refl past
    where
      past : (k : ℕ) → 13 ≤ k → number_children k (children ((row_of k).node d i)) ≡ must_be_numbers ((row_of k).node d i)
      past k h = rw (row-past k h, ne_eqb k 5 (omega arith), ne_eqb k 8 (omega arith))

-- the children of the node that begins at byte i
pub children-at : (d : List ℕ) (i : ℕ) → children (node_at d i) ≡ children_at d (i + 1) (child_count (byte d i))
unfolding node_at
children-at d i = children-row d (i + 1) (byte d i)

-- and those of which it asks to be numbers
pub number_children-at : (d : List ℕ) (i : ℕ) → number_children (byte d i) (children (node_at d i)) ≡ must_be_numbers (node_at d i)
unfolding node_at
number_children-at d i = number_children-row d (i + 1) (byte d i)

pub number_at : (d : List ℕ) (i : ℕ) → is_number (node_at d i) ≡ is_number_kind (byte d i)
unfolding node_at
number_at d i = number-row d (i + 1) (byte d i)

-- the bytes from i on, cut out
cut-at : (d : List ℕ) (i k : ℕ) → i + k ≤ length d → take k (drop i d) ≡ children_at d i k
unfolding children_at byte
cut-at d i zero h = refl
cut-at d i (suc k) h = rw (drop-cons d i 0 (omega arith), ← (add-one i)) (ap (λ l. get_or d i 0 ∷ l) (cut-at d (i + 1) k (omega arith)))

-- a body's children stand inside it
pub count-bytes : (k : ℕ) → child_count k ≤ (row_of k).bytes
unfolding row_of kinds unit_row child_count child_counts
count-bytes =
    by_kind (λ k. child_count k ≤ (row_of k).bytes) (lit≤ tt) (lit≤ tt) (lit≤ tt) (lit≤ tt) (lit≤ tt) (lit≤ tt) (lit≤ tt) (lit≤ tt) (lit≤ tt) (lit≤ tt) (lit≤ tt) (lit≤ tt) (lit≤ tt)
    (λ k h. rw (no_children k h) zero-le)

-- a child of the node that begins at byte i, by its place in the body
pub child-smaller : (d : List ℕ) (i n j : ℕ) → some_not_smaller n (children (node_at d i)) ≡ false → j < child_count (byte d i) → byte d (i + 1 + j) < n
child-smaller d i n j e h =
    children-smaller d n (i + 1) (child_count (byte d i)) j (sym (ap (some_not_smaller n) (children-at d i)) ∙ e) h

-- and are the first bytes of one that is cut out
pub children_cut : (d : List ℕ) (i n k : ℕ) → n ≡ child_count (byte d i) → n ≤ k → i + 1 + k ≤ length d → take n (take k (drop (i + 1) d)) ≡ children (node_at d i)
children_cut d i n k e few h =
    take-take n k (drop (i + 1) d) few ∙ cut-at d (i + 1) n (omega arith) ∙ ap (children_at d (i + 1)) e ∙ sym (children-at d i)

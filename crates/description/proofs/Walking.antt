-- A walk over a node's children keeps the most of what they say: what a node needs, and the binds in it, are such walks.
use Prim.Native.Nat.{ℕ, zero, suc, ◌+◌, ◌-◌, ◌≤◌, ◌<◌, max}
use mathlib.Core.List.{List, [], ◌∷◌}
use mathlib.Core.Path.{◌≡◌, refl, sym, ap, subst, ◌∙◌}
use native.Mathlib.Nat.{add-zero, zero-add, sub-zero}
use native.Mathlib.Omega.{arith}
use borrow.Author.Tests.{ne_eqb}
use Rattle.description.specs.Binds.{needs, binds}
use Rattle.description.specs.Bodies.{child_counts, child_count}
use Rattle.description.specs.Inner.Children.{children_at, binding, own_needs}
use Rattle.description.specs.Kinds.{byte, unit_row, kinds, row_of}
use Rattle.description.specs.Places.{start, kind_of, field_of}
use Rattle.description.specs.Trees.{Tree, tree}
use Rattle.description.proofs.Bodies.{row-past, no_children}
use Rattle.description.proofs.Children.{children-all, children-next, children-none}
use Rattle.description.proofs.Ranges.{by_kind}

module _ (kind : ℕ) (step : ℕ → ℕ → ℕ) (value : ℕ → ℕ) where
  -- the most of what was found, and of what the children say that stand from place j on
  pub walk : ℕ → ℕ → List ℕ → ℕ
  walk most j [] = most
  walk most j (c ∷ cs) = walk (max most (step (value c) (binding kind j))) (j + 1) cs

-- the walk over a node's children keeps what it has, and what each of them says
module _ (d : List ℕ) (kind : ℕ) (step : ℕ → ℕ → ℕ) (value : ℕ → ℕ) where
  walk-keeps : (most j p k : ℕ) → most ≤ walk kind step value most j (children_at d p k)
  unfolding walk children_at
  walk-keeps most j p zero = omega arith
  walk-keeps most j p (suc k) = omega (arith, walk-keeps (max most (step (value (byte d p)) (binding kind j))) (j + 1) (p + 1) k)

  walk-has : (most j p k i : ℕ) → i < k → step (value (byte d (p + i))) (binding kind (j + i)) ≤ walk kind step value most j (children_at d p k)
  unfolding walk children_at
  walk-has most j p zero i h = absurd (omega arith)
  walk-has most j p (suc k) zero h =
      rw (add-zero p, add-zero j)
      (omega (arith, walk-keeps (max most (step (value (byte d p)) (binding kind j))) (j + 1) (p + 1) k))
  walk-has most j p (suc k) (suc i) h =
      let bytes : p + suc i ≡ p + 1 + i = omega arith in
      let places : j + suc i ≡ j + 1 + i = omega arith in
      rw (bytes, places) (walk-has (max most (step (value (byte d p)) (binding kind j))) (j + 1) (p + 1) k i (omega arith))

  pub walk-child : (most p k i : ℕ) → i < k → step (value (byte d (p + i))) (binding kind i) ≤ walk kind step value most 0 (children_at d p k)
  walk-child most p k i h =
      subst (λ (j : ℕ). step (value (byte d (p + i))) (binding kind j) ≤ walk kind step value most 0 (children_at d p k)) (zero-add i)
      (walk-has most 0 p k i h)

module _ (d : List ℕ) (node : ℕ) (step : ℕ → ℕ → ℕ) (value : ℕ → ℕ) (whole : ℕ) where
  -- the walk over a node's children from place j on gives what the whole walk does
  pub record Left (kind children most j : ℕ) : Type 0 where
    pub kind-is : kind ≡ kind_of d node
    pub children-are : children ≡ child_count kind
    pub within : j ≤ children
    pub gives : walk kind step value most j (children_at d (start d node + 1 + j) (children - j)) ≡ whole

  pub walk-all : (kind children own : ℕ)
      → kind ≡ kind_of d node → children ≡ child_count kind
      → whole ≡ walk (kind_of d node) step value own 0 (children_at d (start d node + 1) (child_count (kind_of d node)))
      → Left kind children own 0
  walk-all kind children own k n e =
      record {
        kind-is = k;
        children-are = n;
        within = omega arith;
        gives = ap (walk kind step value own 0) (children-all d (start d node + 1) children) ∙ rw (n, k) (sym e);
      }

  module _ (kind children most j : ℕ) (l : Left kind children most j) where
    pub walk-next : (more : ℕ) → j < children → more ≡ max most (step (value (field_of d node j)) (binding kind j)) → Left kind children more (j + 1)
    unfolding walk field_of
    walk-next more h e =
        record {
          kind-is = l.kind-is;
          children-are = l.children-are;
          within = omega arith;
          gives = rw e (sym (ap (walk kind step value most j) (children-next d (start d node + 1) children j h)) ∙ l.gives);
        }

    pub walk_none : children ≤ j → most ≡ whole
    unfolding walk
    walk_none h =
        let e : j ≡ children = omega (arith, l.within) in
        sym (ap (walk kind step value most j)
        (ap (λ (p : ℕ). children_at d (start d node + 1 + p) (children - p)) e ∙ children-none d (start d node + 1) children))
        ∙ l.gives

module _ (d : List ℕ) (t : ℕ → Tree) (node i : ℕ) where
  -- how many binds the tree of a node needs
  abbrev Needs : ℕ → Type 0
  Needs kind = needs (tree t node ((row_of kind).node d i)) ≡ walk kind ◌-◌ (λ c. needs (t c)) (own_needs d kind i) 0 (children_at d i (child_count kind))

  pub needs-walk : (kind : ℕ) → Needs kind
  unfolding walk needs tree row_of kinds unit_row own_needs child_count child_counts children_at binding
  needs-walk =
      by_kind Needs refl refl refl refl (two _ _) (inside _ _) (two _ _) (two _ _) (own _ _) three refl (one _) (one _) past
    where
      one : (a : ℕ) → a ≡ max 0 (a - 0)
      one a = omega arith

      own : (a x : ℕ) → max a x ≡ max x (a - 0)
      own a x = omega arith

      two : (a b : ℕ) → max a b ≡ max (max 0 (a - 0)) (b - 0)
      two a b = omega arith

      inside : (a b : ℕ) → max a (b - 1) ≡ max (max 0 (a - 0)) (b - 1)
      inside a b = omega arith

      all : (a b c x : ℕ) → max (max a b) (max c x) ≡ max (max (max x (a - 0)) (b - 0)) (c - 0)
      all a b c x = rw (sub-zero a, sub-zero b, sub-zero c) (omega arith)

      three : Needs 9
      three =
          let e : i + 2 ≡ i + 1 + 1 = omega arith in
          rw e (all _ _ _ _)

      past : (k : ℕ) → 13 ≤ k → Needs k
      past k h =
          rw (row-past k h, no_children k h, ne_eqb k 8 (omega arith), ne_eqb k 9 (omega arith), ne_eqb k 10 (omega arith))

  -- the most binds around one node of it
  abbrev Binds : ℕ → Type 0
  Binds kind = binds (tree t node ((row_of kind).node d i)) ≡ walk kind ◌+◌ (λ c. binds (t c)) 0 0 (children_at d i (child_count kind))

  pub binds-walk : (kind : ℕ) → Binds kind
  unfolding walk binds tree row_of kinds unit_row child_count child_counts children_at binding
  binds-walk =
      by_kind Binds refl refl refl refl (two _ _) (inside _ _) (two _ _) (two _ _) (one _) three refl (one _) (one _) past
    where
      one : (a : ℕ) → a ≡ max 0 (a + 0)
      one a = omega arith

      two : (a b : ℕ) → max a b ≡ max (max 0 (a + 0)) (b + 0)
      two a b = omega arith

      inside : (a b : ℕ) → max a (suc b) ≡ max (max 0 (a + 0)) (b + 1)
      inside a b = omega arith

      all : (a b c : ℕ) → max a (max b c) ≡ max (max (max 0 (a + 0)) (b + 0)) (c + 0)
      all a b c = omega arith

      three : Binds 9
      three =
          let e : i + 2 ≡ i + 1 + 1 = omega arith in
          rw e (all _ _ _)

      past : (k : ℕ) → 13 ≤ k → Binds k
      past k h = rw (row-past k h, no_children k h)

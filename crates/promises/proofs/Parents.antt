-- Children in a table of subtrees: each lies in its parent's span and subtree, and each entry beneath another has one parent.
use Prim.Native.Nat.{ℕ, zero, suc, ◌≤◌, ◌<◌}
use mathlib.Core.Path.{◌≡◌, refl, sym, ap, subst, ◌∙◌}
use native.Mathlib.Decide.{dec_lt}
use native.Mathlib.Nat.{le_refl, le_trans}
use native.Mathlib.Omega.{arith}
use Rattle.rules.specs.Entries.{Entry}
use Rattle.promises.specs.Table.{after, child_at, ChildOf}
use Rattle.promises.proofs.Subtrees.{Subtrees, Whole, First, this_or_on, first, each-whole}

module _ (at : ℕ → Entry) where
  -- No subtree ends before it begins.
  ahead : (c : ℕ) → c ≤ after at c
  unfolding after
  ahead c = omega arith

  -- Children stand after their parent, one after another.
  child-later : (i n : ℕ) → i < child_at at i n
  unfolding child_at
  child-later i zero = omega arith
  child-later i (suc n) = omega (arith, child-later i n, ahead (child_at at i n))

  child-next : (i n end : ℕ) → child_at at i (suc n) < end → child_at at i n < end
  unfolding child_at
  child-next i n end h = omega (arith, ahead (child_at at i n))

  module _ (i : ℕ) (w : Whole at i) where
    -- child n, with those after it
    child-first : (n : ℕ) → child_at at i n < after at i → First at (at i).begin (at i).end (child_at at i n) (after at i)
    unfolding child_at
    child-first zero h = first at w.beneath h
    child-first (suc n) h = first at (child-first n (child-next i n (after at i) h)).others h

    -- A child lies in its parent's span, and its subtree in its parent's.
    pub child : (j : ℕ) → ChildOf at i j → First at (at i).begin (at i).end j (after at i)
    child j c = rw c.is (child-first c.place (rw c.is at c.inside))

    -- an entry between the parent and its child n ends before that child
    ends-before : (n : ℕ) → child_at at i n < after at i → (k : ℕ) → i < k → k < child_at at i n → after at k ≤ child_at at i n
    unfolding child_at
    ends-before zero h k l u = absurd (omega arith)
    ends-before (suc n) h k l u = go (dec_lt k c) (ends-before n before k l)
      where
        c : ℕ
        c = child_at at i n

        before : c < after at i
        before = child-next i n (after at i) h

        go : Dec (k < c) → (k < c → after at k ≤ c) → after at k ≤ after at c
        go (yes b) earlier = le_trans (earlier b) (ahead c)
        go (no b) earlier =
            this_or_on c (after at c) k (omega arith)
            (λ same. subst (λ (x : ℕ). after at x ≤ after at c) same (le_refl (after at c)))
            (λ f t. (each-whole at (child-first n before).whole.beneath k f t).1)
            (λ f. absurd (omega arith))

  -- An entry among the children of i, from child n on, or beneath them, has a parent.
  parent_among : {lo hi c end : ℕ} → Subtrees at lo hi c end → (i n : ℕ) → c ≡ child_at at i n → end ≡ after at i → (j : ℕ) → c ≤ j → j < end
      → (p : ℕ) × (p < j) × ChildOf at p j
  unfolding child_at
  parent_among (Subtrees.none is) i n starts ends j h l = absurd (omega arith)
  parent_among {c = c} (Subtrees.more itself from forward to inside beneath others) i n starts ends j h l =
      this_or_on c (after at c) j h
      (λ same. (i, omega (arith, child-later i n), record { place = n; is = sym same ∙ starts; inside = omega arith }))
      (λ f t. parent_among beneath c 0 refl refl j f t)
      (λ f. parent_among others i (suc n) (ap (after at) starts) ends j f l)

  -- Every entry beneath i has a parent,
  pub parent_of : (i : ℕ) → Whole at i → (j : ℕ) → i < j → j < after at i → (p : ℕ) × (p < j) × ChildOf at p j
  unfolding child_at
  parent_of i w j h l = parent_among w.beneath i 0 refl refl j h l

  -- Of two entries, the later is no parent of a child of the earlier.
  not-both : (i k j : ℕ) → Whole at i → i < k → ChildOf at i j → ChildOf at k j → ⊥
  not-both i k j w l c d =
      let e : k < j = omega (arith, child-later k d.place, d.is) in
      let b : after at k ≤ j = rw c.is (ends-before i w c.place (omega (arith, c.is, c.inside)) k l (omega (arith, c.is))) in
      omega (arith, d.inside)

  -- and only one.
  pub same-parent : (i k j : ℕ) → Whole at i → Whole at k → ChildOf at i j → ChildOf at k j → i ≡ k
  same-parent i k j w x c d = go (dec_lt i k) (dec_lt k i)
    where
      go : Dec (i < k) → Dec (k < i) → i ≡ k
      go (yes l) m = absurd (not-both i k j w l c d)
      go (no l) (yes m) = absurd (not-both k i j x m d c)
      go (no l) (no m) = omega arith

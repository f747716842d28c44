-- The children that stand from a byte on, one after the other.
use Prim.Native.Nat.{ℕ, zero, suc, ◌+◌, ◌-◌, ◌≤◌, ◌<◌}
use mathlib.Core.Bool.{false}
use mathlib.Core.List.{List, [], ◌∷◌}
use mathlib.Core.Path.{◌≡◌, refl, ap, ap₂, ◌∙◌}
use native.Mathlib.Nat.{add-zero, sub-zero}
use native.Mathlib.Omega.{arith}
use lib.Dec.{leb}
use borrow.Author.Tests.{leb-false, lt-leb}
use Rattle.description.specs.Inner.Children.{children_at}
use Rattle.description.specs.Check.{some_not_smaller}
use Rattle.description.specs.Kinds.{byte}
use Rattle.std.proofs.lemmas.Bool.{or_parts}

module _ (d : List ℕ) (i k : ℕ) where
  -- none passed yet
  pub children-all : children_at d (i + 0) (k - 0) ≡ children_at d i k
  children-all = ap₂ (children_at d) (add-zero i) (sub-zero k)

  -- the next
  pub children-next : (j : ℕ) → j < k → children_at d (i + j) (k - j) ≡ byte d (i + j) ∷ children_at d (i + (j + 1)) (k - (j + 1))
  unfolding children_at
  children-next j h =
      let more : k - j ≡ suc (k - (j + 1)) = omega arith in
      let on : i + j + 1 ≡ i + (j + 1) = omega arith in
      ap (children_at d (i + j)) more ∙ ap (λ (p : ℕ). byte d (i + j) ∷ children_at d p (k - (j + 1))) on

  -- all passed
  pub children-none : children_at d (i + k) (k - k) ≡ []
  unfolding children_at
  children-none = let none : k - k ≡ 0 = omega arith in ap (children_at d (i + k)) none

-- where none of the children is not smaller, the first is smaller, and none of the others is not
pub smaller-parts : (n c : ℕ) (cs : List ℕ) → some_not_smaller n (c ∷ cs) ≡ false → (c < n) × (some_not_smaller n cs ≡ false)
unfolding some_not_smaller
smaller-parts n c cs e =
    let parts = or_parts (leb n c) (some_not_smaller n cs) e in
    (leb-false n c parts.0, parts.1)

-- each of the children is smaller, where none is not
pub children-smaller : (d : List ℕ) (n p k j : ℕ) → some_not_smaller n (children_at d p k) ≡ false → j < k → byte d (p + j) < n
unfolding children_at some_not_smaller
children-smaller d n p zero j e h = absurd (omega arith)
children-smaller d n p (suc k) zero e h =
    rw (add-zero p) (smaller-parts n (byte d p) (children_at d (p + 1) k) e).0
children-smaller d n p (suc k) (suc j) e h =
    let on : p + suc j ≡ p + 1 + j = omega arith in
    rw on (children-smaller d n (p + 1) k j (smaller-parts n (byte d p) (children_at d (p + 1) k) e).1 (omega arith))

-- a list that has none that is not smaller than n has none that is not smaller than m
pub smaller-still : (n m : ℕ) (cs : List ℕ) → n ≤ m → some_not_smaller n cs ≡ false → some_not_smaller m cs ≡ false
unfolding some_not_smaller
smaller-still n m [] h e = refl
smaller-still n m (c ∷ cs) h e =
    let parts = smaller-parts n c cs e in
    rw (lt-leb m c (omega (arith, parts.0))) (smaller-still n m cs h parts.1)

-- The first nodes of a description, and where they begin, by their numbers.
use Prim.Native.Nat.{ℕ, zero, suc, ◌<◌}
use mathlib.Core.List.{List, [], ◌∷◌, ◌++◌}
use mathlib.Core.Path.{◌≡◌, refl, sym, ap, subst, ◌∙◌}
use native.Mathlib.Decide.{ℕ_discrete}
use native.Mathlib.Omega.{arith}
use lib.ListN.{length, get_or, length-append, get_or-append}
use lib.Seq.{get_or_at}
use Rattle.description.specs.Check.{node_at}
use Rattle.description.specs.Nodes.{unit}
use Rattle.description.specs.Places.{start, starts_to, nodes_to}

-- lists that grow by one at their end
module _ {A : Type 0} (to : ℕ → List A) (item : ℕ → A) (none : to 0 ≡ []) (more : (n : ℕ) → to (suc n) ≡ to n ++ (item n ∷ [])) where
  pub grown-length : (n : ℕ) → length (to n) ≡ n
  grown-length zero = ap length none
  grown-length (suc n) = ap length (more n) ∙ length-append (to n) (item n ∷ []) ∙ (omega (arith, grown-length n))

  pub grown-at : (n k : ℕ) (d : A) → k < n → get_or (to n) k d ≡ item k
  grown-at zero k d h = absurd (omega arith)
  grown-at (suc n) k d h = go (ℕ_discrete k n) (grown-at n k d)
    where
      go : Dec (k ≡ n) → (k < n → get_or (to n) k d ≡ item k) → get_or (to (suc n)) k d ≡ item k
      go (yes e) before = rw (more n, e) (get_or_at (to n) (item n) [] d n (grown-length n))
      go (no f) before =
          rw (more n) (get_or-append (to n) (item n ∷ []) d k (subst (λ (m : ℕ). k < m) (sym (grown-length n)) (omega arith)) ∙ before (omega arith))

module _ (desc : List ℕ) where
  pub starts_length : (n : ℕ) → length (starts_to desc n) ≡ n
  unfolding starts_to
  starts_length = grown-length (starts_to desc) (start desc) refl (λ n. refl)

  pub starts_at : (n k : ℕ) → k < n → get_or (starts_to desc n) k 0 ≡ start desc k
  unfolding starts_to
  starts_at n k h = grown-at (starts_to desc) (start desc) refl (λ n. refl) n k 0 h

  pub nodes-length : (n : ℕ) → length (nodes_to desc n) ≡ n
  unfolding nodes_to
  nodes-length = grown-length (nodes_to desc) (λ k. node_at desc (start desc k)) refl (λ n. refl)

  pub nodes-at : (n k : ℕ) → k < n → get_or (nodes_to desc n) k unit ≡ node_at desc (start desc k)
  unfolding nodes_to
  nodes-at n k h = grown-at (nodes_to desc) (λ k. node_at desc (start desc k)) refl (λ n. refl) n k unit h

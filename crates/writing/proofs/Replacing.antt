-- A table in which the number of one entry is replaced has the entries of before, but for that one.
use Prim.Native.Nat.{ℕ, suc, ◌+◌, ◌*◌, ◌≤◌, ◌<◌}
use mathlib.Core.List.{List, [], ◌∷◌, ◌++◌}
use mathlib.Core.Path.{◌≡◌, refl, subst, ◌∙◌}
use native.Mathlib.Omega.{arith}
use lib.ListN.{length, set}
use lib.Seq.{get_or-set_same, get_or-set_other}
use Rattle.rules.specs.Entries.{Entry}
use Rattle.promises.specs.Table.{entry_at}
use Rattle.promises.proofs.Agreeing.{Agrees, agrees_first, agrees-second}
use Rattle.writing.specs.Entries.{entry_words}

-- The table with number m in entry i.
abbrev pub replaced : List ℕ → ℕ → ℕ → List ℕ
replaced values i m = set values (entry_words * i + 1) m

module _ (values descriptors : List ℕ) (i m : ℕ) where
  pub other-entry : (k : ℕ) → (k ≡ i → ⊥) → entry_at (replaced values i m) descriptors k ≡ entry_at values descriptors k
  unfolding entry_at entry_words
  other-entry k f =
      cc (
        get_or-set_other values (4 * i + 1) (4 * k) m 0 (λ e. omega arith),
        get_or-set_other values (4 * i + 1) (4 * k + 1) m 0 (λ e. f (omega arith)),
        get_or-set_other values (4 * i + 1) (4 * k + 2) m 0 (λ e. omega arith),
        get_or-set_other values (4 * i + 1) (4 * k + 3) m 0 (λ e. omega arith),
      )

  pub same-node : (entry_at (replaced values i m) descriptors i).node ≡ (entry_at values descriptors i).node
  unfolding entry_at entry_words
  same-node = get_or-set_other values (4 * i + 1) (4 * i) m 0 (λ e. omega arith)

  pub new-number : 4 * i + 1 < length values → (entry_at (replaced values i m) descriptors i).number ≡ m
  unfolding entry_at entry_words
  new-number h = get_or-set_same values (4 * i + 1) m 0 h

-- entries that two tables have in common
agrees-elsewhere : (at at' : ℕ → Entry) (es : List Entry) (j : ℕ) → ((k : ℕ) → j ≤ k → k < j + length es → at' k ≡ at k) → Agrees at j es → Agrees at' j es
agrees-elsewhere at at' [] j same a = tt
agrees-elsewhere at at' (e ∷ es) j same a =
    (same j (omega arith) (omega arith) ∙ a.0, agrees-elsewhere at at' es (suc j) (λ k h l. same k (omega arith) (omega arith)) a.1)

agrees_append : (at : ℕ → Entry) (xs ys : List Entry) (j : ℕ) → Agrees at j xs → Agrees at (j + length xs) ys → Agrees at j (xs ++ ys)
agrees_append at [] ys j a b = subst (λ (k : ℕ). Agrees at k ys) (omega arith) b
agrees_append at (x ∷ xs) ys j a b = (a.0, agrees_append at xs ys (suc j) a.1 (subst (λ (k : ℕ). Agrees at k ys) (omega arith) b))

-- Entry i anew, between those before it and those after it.
pub replaced-agrees : (values descriptors : List ℕ) (i m : ℕ) (xs : List Entry) (e : Entry) (ys : List Entry) → length xs ≡ i
    → Agrees (entry_at values descriptors) 0 (xs ++ e ∷ ys)
    → Agrees (entry_at (replaced values i m) descriptors) 0 (xs ++ entry_at (replaced values i m) descriptors i ∷ ys)
replaced-agrees values descriptors i m xs e ys place a =
    let at = entry_at values descriptors in
    let at' = entry_at (replaced values i m) descriptors in
    let here : 0 + length xs ≡ i = omega arith in
    let rest : Agrees at i (e ∷ ys) = subst (λ (k : ℕ). Agrees at k (e ∷ ys)) here (agrees-second at xs (e ∷ ys) 0 a) in
    let before = agrees-elsewhere at at' xs 0 (λ k h l. other-entry values descriptors i m k (λ s. omega arith)) (agrees_first at xs (e ∷ ys) 0 a) in
    let after = agrees-elsewhere at at' ys (suc i) (λ k h l. other-entry values descriptors i m k (λ s. omega arith)) rest.1 in
    agrees_append at' xs (at' i ∷ ys) 0 before (rw here (refl, after))

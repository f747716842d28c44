-- Entries of a table, from an index on, that are those of a list.
use Prim.Native.Nat.{ℕ, suc, ◌+◌}
use mathlib.Core.List.{List, [], ◌∷◌, ◌++◌}
use mathlib.Core.Path.{◌≡◌, refl, ap, subst}
use native.Mathlib.Omega.{arith}
use lib.ListN.{length}
use Rattle.rules.specs.Entries.{Entry, Reading}
use Rattle.rules.proofs.Heads.{Headed}
use Rattle.promises.specs.Table.{after, entries}

-- from entry i on the table has these entries
abbrev pub Agrees : (at : ℕ → Entry) → ℕ → List Entry → Type 0
Agrees at i [] = Unit
Agrees at i (e ∷ es) = (at i ≡ e) × Agrees at (suc i) es

module _ (at : ℕ → Entry) where
  -- Of two lists after one another, the first is there, and the second after it.
  pub agrees_first : (xs ys : List Entry) (i : ℕ) → Agrees at i (xs ++ ys) → Agrees at i xs
  agrees_first [] ys i a = tt
  agrees_first (x ∷ xs) ys i a = (a.0, agrees_first xs ys (suc i) a.1)

  pub agrees-second : (xs ys : List Entry) (i : ℕ) → Agrees at i (xs ++ ys) → Agrees at (i + length xs) ys
  agrees-second [] ys i a = subst (λ (k : ℕ). Agrees at k ys) (omega arith) a
  agrees-second (x ∷ xs) ys i a = subst (λ (k : ℕ). Agrees at k ys) (omega arith) (agrees-second xs ys (suc i) a.1)

  -- The entries of the list are those that the table has there.
  pub agrees-entries : (es : List Entry) (i : ℕ) → Agrees at i es → entries at i (length es) ≡ es
  unfolding entries
  agrees-entries [] i a = refl
  agrees-entries (e ∷ es) i a = rw (a.0, agrees-entries es (suc i) a.1)

  -- A reading's own entry stands first, and the entry after its subtree is the one after all of its entries.
  module _ {n o : ℕ} {r : Reading} (h : Headed n o r) (i : ℕ) (a : Agrees at i r.entries) where
    pub agrees-own : Agrees at i (h.own ∷ h.beneath)
    agrees-own = subst (Agrees at i) h.entries a

    pub subtree_after : after at i ≡ i + length r.entries
    unfolding after
    subtree_after = omega (arith, ap (λ (e : Entry). e.size) agrees-own.0, h.size, ap length h.entries)

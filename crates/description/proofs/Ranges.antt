-- What holds of each number of a short range holds of a number in it.
use Prim.Native.Nat.{ℕ, zero, suc, ◌+◌, ◌≤◌, ◌<◌}
use mathlib.Core.Path.{◌≡◌, subst}
use native.Mathlib.Decide.{ℕ_discrete, dec_lt}
use native.Mathlib.Omega.{arith}

module _ (P : ℕ → Type 0) where
  -- P of the n numbers from lo on
  abbrev pub Each : ℕ → ℕ → Type 0
  Each lo zero = Unit {0}
  Each lo (suc n) = P lo × Each (suc lo) n

  pub between : (lo n : ℕ) → Each lo n → (x : ℕ) → lo ≤ x → x < lo + n → P x
  between lo zero each x l h = absurd (omega arith)
  between lo (suc n) each x l h = go (between (suc lo) n each.1 x) (ℕ_discrete lo x)
    where
      go : (suc lo ≤ x → x < suc lo + n → P x) → Dec (lo ≡ x) → P x
      go later (yes e) = subst P e each.0
      go later (no f) = later (omega arith) (omega arith)

  -- what holds of each kind of the table, and past it
  pub by_kind : P 0 → P 1 → P 2 → P 3 → P 4 → P 5 → P 6 → P 7 → P 8 → P 9 → P 10 → P 11 → P 12
      → ((k : ℕ) → 13 ≤ k → P k) → (k : ℕ) → P k
  by_kind a b c d e f g h i j l m n past k = go (dec_lt k 13)
    where
      each : Each 0 13
      each = (a, (b, (c, (d, (e, (f, (g, (h, (i, (j, (l, (m, (n, tt)))))))))))))

      go : Dec (k < 13) → P k
      go (yes inside) = between 0 13 each k (omega arith) inside
      go (no outside) = past k (omega arith)

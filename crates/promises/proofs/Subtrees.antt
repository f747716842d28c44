-- Subtrees of a table, one after another from an entry to an entry, each inside a span: nested entries are such in a table that has them.
use Prim.Native.Nat.{ℕ, suc, ◌+◌, ◌≤◌, ◌<◌}
use mathlib.Core.List.{List, ◌∷◌, ◌++◌}
use mathlib.Core.Path.{◌≡◌, sym, ap, subst, ◌∙◌}
use native.Mathlib.Decide.{dec_lt, ℕ_discrete}
use native.Mathlib.Nat.{le_trans}
use native.Mathlib.Omega.{arith}
use lib.ListN.{length, length-append}
use Rattle.rules.specs.Entries.{Entry}
use Rattle.promises.specs.Table.{after}
use Rattle.promises.proofs.Agreeing.{Agrees, agrees_first, agrees-second}
use Rattle.promises.proofs.Nested.{Nested}

-- an entry k from i on is i, or stands between i and m, or from m on
pub this_or_on : {X : Type 0} (i m k : ℕ) → i ≤ k → (i ≡ k → X) → (suc i ≤ k → k < m → X) → (m ≤ k → X) → X
this_or_on {X} i m k h this between on = go (ℕ_discrete i k) (dec_lt k m)
  where
    go : Dec (i ≡ k) → Dec (k < m) → X
    go (yes e) b = this e
    go (no d) (yes b) = between (omega arith) b
    go (no d) (no n) = on (omega arith)

module _ (at : ℕ → Entry) where
  -- From entry i up to entry `end`, subtrees that lie inside the span from bit lo to bit hi.
  pub data Subtrees : (lo hi i end : ℕ) → Type 0 where
    none : {lo hi i end : ℕ} → i ≡ end → Subtrees lo hi i end
    more : {lo hi i end : ℕ} → 0 < (at i).size → lo ≤ (at i).begin → (at i).begin ≤ (at i).end → (at i).end ≤ hi → after at i ≤ end
        → Subtrees (at i).begin (at i).end (suc i) (after at i) → Subtrees lo hi (after at i) end
        → Subtrees lo hi i end

  -- An entry over the subtrees beneath it.
  pub record Whole (i : ℕ) : Type 0 where
    pub itself : 0 < (at i).size
    pub forward : (at i).begin ≤ (at i).end
    pub beneath : Subtrees (at i).begin (at i).end (suc i) (after at i)

  -- Nested entries, in a table that has them from entry i on.
  pub subtrees : {lo hi : ℕ} {es : List Entry} → Nested lo hi es → (i end : ℕ) → end ≡ i + length es → Agrees at i es → Subtrees lo hi i end
  unfolding after
  subtrees Nested.none i end is a = Subtrees.none {i = i} {end = end} (omega arith)
  subtrees {lo} {hi} {es} (Nested.more e run rest are size from forward to inner others) i end is a =
      let here : Agrees at i (e ∷ run ++ rest) = subst (Agrees at i) are a in
      let all : length es ≡ suc (length run) + length rest = ap length are ∙ length-append (e ∷ run) rest in
      let own = here.0 in
      let past : after at i ≡ suc i + length run = omega (arith, size, ap (λ (x : Entry). x.size) own) in
      let ends : end ≡ after at i + length rest = omega arith in
      let second = subst (λ (k : ℕ). Agrees at k rest) (sym past) (agrees-second at run rest (suc i) here.1) in
      Subtrees.more {lo = lo} {hi = hi} {i = i} {end = end} (omega arith) (rw own from) (rw own forward) (rw own to) (omega arith)
      (rw own (subtrees inner (suc i) (i + e.size) (omega arith) (agrees_first at run rest (suc i) here.1)))
      (subtrees others (after at i) end ends second)

  -- The first of them, where there is one: it lies inside the span, and the others follow it.
  pub record First (lo hi i end : ℕ) : Type 0 where
    pub whole : Whole i
    pub from : lo ≤ (at i).begin
    pub to : (at i).end ≤ hi
    pub ends : after at i ≤ end
    pub others : Subtrees lo hi (after at i) end

  pub first : {lo hi i end : ℕ} → Subtrees lo hi i end → i < end → First lo hi i end
  first (Subtrees.none is) h = absurd (omega arith)
  first (Subtrees.more itself from forward to ends beneath others) h =
      record { whole = record { itself = itself; forward = forward; beneath = beneath }; from = from; to = to; ends = ends; others = others }

  -- Each entry among them has its subtree, which ends among them.
  pub each-whole : {lo hi i end : ℕ} → Subtrees lo hi i end → (k : ℕ) → i ≤ k → k < end → Whole k × (after at k ≤ end)
  each-whole (Subtrees.none is) k h l = absurd (omega arith)
  each-whole {i = i} {end = end} (Subtrees.more itself from forward to ends beneath others) k h l =
      this_or_on i (after at i) k h
      (λ same. subst (λ (n : ℕ). Whole n × (after at n ≤ end)) same (record { itself = itself; forward = forward; beneath = beneath }, ends))
      (λ u v.
      let w = each-whole beneath k u v in
      (w.0, le_trans w.1 ends))
      (λ u. each-whole others k u l)

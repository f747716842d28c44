-- Request 1: each entry of a bits or signed node of a successful call's tables tells how much of it was missing.
use Prim.Native.Nat.{ℕ, zero, suc, ◌+◌, ◌≤◌, ◌<◌}
use mathlib.Core.List.{List}
use mathlib.Core.Logic.{inl, inr}
use mathlib.Core.Path.{◌≡◌, sym, ap, subst, ◌∙◌}
use native.Mathlib.Nat.{le_trans}
use native.Mathlib.Omega.{arith}
use lib.Dec.{leb}
use lib.IntN.{ℤ}
use borrow.Author.Tests.{leb-true, leb-false}
use Rattle.bits.specs.Bits.{total}
use Rattle.description.specs.Check.{accepted, meaning}
use Rattle.description.specs.Trees.{Tree}
use Rattle.description.proofs.Choice.{by_test, either_way}
use Rattle.rules.specs.Entries.{Entry, Reading, reading}
use Rattle.rules.specs.Outcome.{success, outcome}
use Rattle.rules.specs.Reading.{read_bits, read}
use Rattle.promises.specs.Missing.{Told, NumberOf, MissingTold}
use Rattle.promises.specs.Places.{Place}
use Rattle.promises.specs.Spans.{Spans}
use Rattle.promises.proofs.Agreeing.{Agrees}
use Rattle.promises.proofs.EachEntry.{some_same, at, found}
use Rattle.promises.proofs.Sound.{Sound}
use Rattle.promises.proofs.Spanning.{success-spans}

-- No entry ends, and so none begins, past the input's last bit: it lies in its parent, and that one in its own, up to the root.
module _ (at : ℕ → Entry) (count bits : ℕ) (s : Spans at count bits) where
  ends-inside : (most j : ℕ) → j ≤ most → j < count → (at j).end ≤ bits
  ends-inside zero j few h = subst (λ (k : ℕ). (at k).end ≤ bits) (omega arith) s.inside
  ends-inside (suc most) j few h =
      either_way (leb j 0) (λ root. subst (λ (k : ℕ). (at k).end ≤ bits) (omega (arith, leb-true j 0 root)) s.inside)
      (λ child.
      let p = s.parent j (leb-false j 0 child) h in
      le_trans (s.nested p.0 j (omega (arith, p.1)) p.2).1 (ends-inside most p.0 (omega (arith, p.1)) (omega (arith, p.1))))

  begins-inside : (j : ℕ) → j < count → (at j).begin ≤ bits
  begins-inside j h = le_trans (s.forward j h) (ends-inside j j (omega arith) h)

-- A table that has a reading of a number from entry i on.
module _ (input : List ℕ) (at : ℕ → Entry) (i n w o : ℕ) (z : ℤ) (within : (at i).begin ≤ total input) (few : (1 ≤ w) × (w ≤ 32)) where
  bits_told : Agrees at i (read_bits input n o w z).entries → Told input w (at i)
  unfolding read_bits reading
  bits_told =
      by_test (λ (r : Reading). Agrees at i r.entries → Told input w (at i)) (leb (o + w) (total input))
      (λ t a.
      let begins = ap (λ (e : Entry). e.begin) a.0 in
      let there : o + w ≤ total input = leb-true (o + w) (total input) t in
      inl (omega (arith, begins), ap (λ (e : Entry). e.code) a.0, ap (λ (e : Entry). e.detail) a.0))
      (λ t a.
      let begins = ap (λ (e : Entry). e.begin) a.0 in
      let missing = ap (λ (e : Entry). e.detail) a.0 in
      let past : total input < o + w = leb-false (o + w) (total input) t in
      inr (
        ap (λ (e : Entry). e.code) a.0,
        omega (arith, begins, missing),
        omega (arith, begins, missing),
        omega (arith, begins, missing),
        few.1,
      ))

-- A number's tree, which passes the check, and the place where it was read.
number_told : (input : List ℕ) (at : ℕ → Entry) (i w o : ℕ) (t : Tree) (lent : List ℤ) → (at i).begin ≤ total input → Sound t
    → Agrees at i (read input t lent o).entries → NumberOf w t → Told input w (at i)
unfolding read
number_told input at i w o t lent within sound agrees (n, inl is) =
    bits_told input at i n w o _ within (subst Sound is sound) (subst (λ (t : Tree). Agrees at i (read input t lent o).entries) is agrees)
number_told input at i w o t lent within sound agrees (n, inr is) =
    bits_told input at i n w o _ within (subst Sound is sound) (subst (λ (t : Tree). Agrees at i (read input t lent o).entries) is agrees)

-- A successful call whose description means this tree.
module _ (v d : ℕ) (desc input : List ℕ) (count end : ℕ) (success : (outcome v d desc input).answer ≡ success count end)
    (root : Tree) (means : meaning desc ≡ accepted root) where
  pub missing_told : MissingTold input root (at v d desc input count end success root means) count
  missing_told i inside p is w number =
      let l = found v d desc input count end success root means i inside in
      let within = begins-inside _ count (total input) (success-spans v d desc input count end success) i inside in
      let same : p ≡ l.place = some_same (sym is ∙ l.is) in
      number_told input _ i w l.offset l.place.tree l.place.lent within l.sound l.agrees
      (subst (λ (q : Place). NumberOf w q.tree) same number)

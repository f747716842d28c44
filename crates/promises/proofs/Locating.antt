-- Where a table has the entries of a reading, each of them has a place, and from it on the table has the entries of the place's reading: a lemma
-- for each kind that has children.
use Prim.Native.Nat.{ℕ, suc, ◌+◌, ◌-◌}
use mathlib.Core.Bool.{true, false, cond}
use mathlib.Core.List.{List, ◌∷◌, ◌++◌}
use mathlib.Core.Option.{Option}
use mathlib.Core.Path.{◌≡◌, refl, sym, ap, subst, ◌∙◌}
use native.Mathlib.Omega.{arith}
use lib.Dec.{eqb, leb}
use lib.IntN.{ℤ, pos}
use lib.ListN.{length}
use Rattle.bits.specs.Bits.{total}
use Rattle.description.specs.Nodes.{Relation, Operand}
use Rattle.description.specs.Trees.{Tree, unit, bottom, bits, signed, then, bind, either, both, where', sequence, compute, absorb, scan}
use Rattle.description.proofs.Choice.{by_test, by_search}
use Rattle.rules.specs.Entries.{Entry, Reading, reading, fail}
use Rattle.rules.specs.Fitting.{recorded}
use Rattle.rules.specs.Numbers.{value_of}
use Rattle.rules.specs.Reading.{two_sides, read_bits, done_at, read}
use Rattle.rules.specs.Tries.{first_start}
use Rattle.rules.proofs.Heads.{node_of, read_headed}
use Rattle.promises.specs.Places.{Place, turns, place_in, absorbs}
use Rattle.promises.specs.Table.{after}
use Rattle.promises.proofs.Absorbing.{fewer-first, fewer-second}
use Rattle.promises.proofs.Agreeing.{agrees_first, agrees-own, subtree_after}
use Rattle.promises.proofs.Located.{NoMoreAbsorbs, Located, Locates, Beneath}
use Rattle.promises.proofs.Located.{here-located, alone-located, child-located, two-located}
use Rattle.promises.proofs.Numbers.{numbered, lent-number}
use Rattle.promises.proofs.Sound.{Sound}
use Rattle.promises.proofs.Turning.{rounds_by_turns}

module _ (input : List ℕ) (at : ℕ → Entry) (j : ℕ) where
  -- what is shown of a reading of a tree, for this input, table and entry
  abbrev LocatesIn : Tree → List ℤ → ℕ → Type 0
  LocatesIn = Locates input at j

  module _ (lent : List ℤ) (n o : ℕ) where
    then-located : (a b : Tree) → Sound (then n a b) → LocatesIn a lent o → LocatesIn b lent (read input a lent o).end
        → LocatesIn (then n a b) lent o
    unfolding read two_sides reading place_in absorbs
    then-located a b sound first second i =
        here-located input at j (then n a b) sound lent o i _
        (λ x l to.
        let p = (read input a lent o).end in
        two-located input at j (then n a b) a b (λ m z. z) lent lent o p first second (suc i) x.1 l (omega arith))

    both-located : (a b : Tree) → Sound (both n a b) → LocatesIn a lent o → LocatesIn b lent o → LocatesIn (both n a b) lent o
    unfolding read two_sides reading place_in absorbs
    both-located a b sound first second i =
        here-located input at j (both n a b) sound lent o i _
        (λ x l to. two-located input at j (both n a b) a b (λ m z. z) lent lent o o first second (suc i) x.1 l (omega arith))

    -- what is lent to the second is what the first's entry records
    bind-located : (a b : Tree) → Sound (bind n a b) → LocatesIn a lent o → ((z : ℤ) → LocatesIn b (z ∷ lent) (read input a lent o).end)
        → LocatesIn (bind n a b) lent o
    unfolding read two_sides reading place_in absorbs
    bind-located a b sound first second i =
        here-located input at j (bind n a b) sound lent o i _
        (λ x l to.
        let r = read input a lent o in
        let h = read_headed input a lent o in
        let lend = cond (eqb r.code fail) (pos 0) r.number in
        let seconds = (read input b (lend ∷ lent) r.end).entries in
        let own : at (suc i) ≡ h.own = (agrees-own at h (suc i) (agrees_first at r.entries seconds (suc i) x.1)).0 in
        let same : lend ≡ recorded a (at (suc i)) =
        lent-number input a r (numbered input a sound.0 sound.1 lent o) h.own h.number ∙ sym (ap (recorded a) own) in
        subst (λ (y : ℤ). Located input (bind n a b) at j (turns at j 2 (place_in at j a lent) (place_in at j b (y ∷ lent)) (suc i))) same
        (two-located input at j (bind n a b) a b (λ m z. z) lent (lend ∷ lent) o r.end first (second lend) (suc i) x.1 l (omega arith)))

    -- "Detail is 1 or 2 for either"
    either-located : (a b : Tree) → Sound (either n a b) → LocatesIn a lent o → LocatesIn b lent o → LocatesIn (either n a b) lent o
    unfolding read reading place_in absorbs
    either-located a b sound first second i =
        let t = either n a b in
        let first_part : NoMoreAbsorbs t a = fewer-first (absorbs a) (absorbs b) in
        let second-part : NoMoreAbsorbs t b = fewer-second (absorbs a) (absorbs b) in
        let found : Option Place = elim (eqb (at i).detail 1) [ true ↦ place_in at j a lent (suc i) | false ↦ place_in at j b lent (suc i) ] in
        here-located input at j t sound lent o i found
        (by_test (Beneath input at j t i found) (eqb (read input a lent o).errors 0)
        (λ e x l to. rw x.0 (child-located input at j t a first_part lent o first (suc i) x.1 l (omega arith)))
        (λ e x l to. rw x.0 (child-located input at j t b second-part lent o second (suc i) x.1 l (omega arith))))

    where_located : (a : Tree) (r : Relation) (x : Operand) → Sound (where' n a r x) → LocatesIn a lent o → LocatesIn (where' n a r x) lent o
    unfolding read reading place_in absorbs
    where_located a r y sound child i =
        let t = where' n a r y in
        here-located input at j t sound lent o i _
        (by_test (Beneath input at j t i (place_in at j a lent (suc i))) (eqb (read input a lent o).code fail)
        (λ e x l to. child-located input at j t a (λ m z. z) lent o child (suc i) x.1 l (omega arith))
        (λ e x l to. child-located input at j t a (λ m z. z) lent o child (suc i) x.1 l (omega arith)))

    -- where nothing is found, nothing stands beneath
    scan-located : (a : Tree) → Sound (scan n a) → ((p : ℕ) → LocatesIn a lent p) → LocatesIn (scan n a) lent o
    unfolding read reading place_in absorbs
    scan-located a sound child i =
        let t = scan n a in
        here-located input at j t sound lent o i _
        (by_search (Beneath input at j t i (place_in at j a lent (suc i))) (first_start (read input a lent) (total input - o) o)
        (λ e x l to. absurd (omega arith))
        (λ p e x l to. child-located input at j t a (λ m z. z) lent p (child p) (suc i) x.1 l (omega arith)))

    -- "by turns element and separator": no more parts than entries
    sequence-located : (e s t : Tree) (x : Operand) → Sound (sequence n e s t x) → ((p : ℕ) → LocatesIn e lent p) → ((p : ℕ) → LocatesIn s lent p)
        → LocatesIn (sequence n e s t x) lent o
    unfolding read reading place_in absorbs after
    sequence-located e s t y sound element separator i =
        let q = sequence n e s t y in
        let element-part : NoMoreAbsorbs q e = λ m z. fewer-first (absorbs e) (absorbs s) m (fewer-first (absorbs e ++ absorbs s) (absorbs t) m z) in
        let separator-part : NoMoreAbsorbs q s = λ m z. fewer-second (absorbs e) (absorbs s) m (fewer-first (absorbs e ++ absorbs s) (absorbs t) m z) in
        here-located input at j q sound lent o i _
        (λ x l to.
        let size : after at i ≡ i + length (read input q lent o).entries = subtree_after at (read_headed input q lent o) i x in
        rounds_by_turns at j (Located input q at j) (read input e lent) (read input s lent) (done_at input (value_of lent y) (read input t lent))
        (node_of e) (node_of s) (read_headed input e lent) (read_headed input s lent) (place_in at j e lent) (place_in at j s lent)
        (λ p. child-located input at j q e element-part lent p (element p)) (λ p. child-located input at j q s separator-part lent p (separator p))
        (total input - o) o (at i).size (omega arith) (suc i) x.1 l (omega arith))

  bits-alone : (n o w : ℕ) (z : ℤ) → length (read_bits input n o w z).entries ≡ 1
  unfolding read_bits reading
  bits-alone n o w z = by_test (λ (r : Reading). length r.entries ≡ 1) (leb (o + w) (total input)) (λ e. refl) (λ e. refl)

  -- Where the table has the entries of a reading from entry i on and entry j is among them, entry j is located.
  pub located : (t : Tree) → Sound t → (lent : List ℤ) (o : ℕ) → Locates input at j t lent o
  unfolding read reading place_in
  located (unit n) sound lent o = alone-located input at j (unit n) sound lent o refl
  located (bottom n) sound lent o = alone-located input at j (bottom n) sound lent o refl
  located (bits n w) sound lent o = alone-located input at j (bits n w) sound lent o (bits-alone n o w _)
  located (signed n w) sound lent o = alone-located input at j (signed n w) sound lent o (bits-alone n o w _)
  located (then n a b) sound lent o =
      then-located lent n o a b sound (located a sound.0 lent o) (located b sound.1 lent (read input a lent o).end)
  located (bind n a b) sound lent o =
      bind-located lent n o a b sound (located a sound.1 lent o) (λ z. located b sound.2 (z ∷ lent) (read input a lent o).end)
  located (either n a b) sound lent o = either-located lent n o a b sound (located a sound.0 lent o) (located b sound.1 lent o)
  located (both n a b) sound lent o = both-located lent n o a b sound (located a sound.0 lent o) (located b sound.1 lent o)
  located (where' n a r x) sound lent o = where_located lent n o a r x sound (located a sound.1 lent o)
  located (sequence n e s t x) sound lent o = sequence-located lent n o e s t x sound (located e sound.0 lent) (located s sound.1 lent)
  located (compute n w f x y) sound lent o = alone-located input at j (compute n w f x y) sound lent o refl
  located (absorb n a) sound lent o = alone-located input at j (absorb n a) sound lent o refl
  located (scan n a) sound lent o = scan-located lent n o a sound (located a sound lent)

-- What fits, with no entry of an absorb node, was read with zero errors: a lemma for each kind.
use Prim.Native.Nat.{ℕ, ◌+◌, ◌-◌, ◌≤◌}
use mathlib.Core.Bool.{true, false, cond}
use mathlib.Core.List.{List, ◌∷◌, ◌++◌}
use mathlib.Core.Logic.{inl, inr, ⊎_elim}
use mathlib.Core.Path.{◌≡◌, refl, sym, ap, subst, ◌∙◌}
use native.Mathlib.Omega.{arith}
use lib.Dec.{eqb, leb}
use lib.IntN.{ℤ, pos}
use borrow.Author.Tests.{eq-eqb, eqb-true}
use Rattle.bits.specs.Bits.{total}
use Rattle.bits.specs.Whole.{word}
use Rattle.description.specs.Check.{is_in}
use Rattle.description.specs.Nodes.{Relation, Operand}
use Rattle.description.specs.Trees.{Tree, unit, bottom, bits, signed, then, bind, either, both, where', sequence, compute, absorb, scan}
use Rattle.std.proofs.lemmas.Bool.{or_left}
use Rattle.description.proofs.Choice.{by_test, by_search}
use Rattle.rules.specs.Entries.{Entry, Reading, reading, any, fail}
use Rattle.rules.specs.Fitting.{recorded, Run, Children, EndToEnd, SameBegin, Fits}
use Rattle.rules.specs.Numbers.{value_of, holds}
use Rattle.rules.specs.Reading.{two_sides, read_bits, done_at, read}
use Rattle.rules.specs.Tries.{first_start}
use Rattle.rules.proofs.Errors.{any_none}
use Rattle.rules.proofs.Heads.{Headed, node_of, read_headed}
use Rattle.promises.specs.Places.{absorbs}
use Rattle.promises.proofs.Absorbing.{Off, Fewer, fewer-first, fewer-second, off_fewer, off_first, off_second}
use Rattle.promises.proofs.Codes.{clean-ok}
use Rattle.promises.proofs.FitsRounds.{turns-clean}
use Rattle.promises.proofs.Numbers.{numbered, recorded-number, lent-number}
use Rattle.promises.proofs.Runs.{Asked, FitsRun, asked_head, head_asked, child_asked, first_asked, second_asked}
use Rattle.promises.proofs.Sound.{is_number_tree, Sound}
use Rattle.promises.proofs.Splitting.{fits-size}

-- no error on either side
no_errors : (a b : ℕ) → a ≡ 0 → b ≡ 0 → any a + any b ≡ 0
no_errors a b x y = omega (arith, any_none a x, any_none b y)

-- an absorb node is in its own list
own-absorbed : (n : ℕ) (ns : List ℕ) → is_in n (n ∷ ns) ≡ false → ⊥
unfolding is_in
own-absorbed n ns e =
    let z : ◌≡◌ {A = ℕ} 1 0 = ap (λ b. cond b 1 0) (sym (or_left (eqb n n) (is_in n ns) (eq-eqb n n refl)) ∙ e) in
    absurd (omega arith)

module _ (input : List ℕ) where
  -- what is shown of a reading of a tree
  abbrev FitsClean : Tree → List ℤ → Reading → Type 0
  FitsClean t lent r = FitsRun input t lent r.entries → Off (absorbs t) r.entries → r.errors ≡ 0

  -- two children, where each that fits is clean
  module _ (lent : List ℤ) (a b : Tree) {n o m p : ℕ} {r s : Reading} (h : Headed n o r) (k : Headed m p s) (Second : Entry → Run) (Spans : Entry → Entry → Type 0)
      (first : FitsClean a lent r) (second : Asked (Second h.own) s.entries → Off (absorbs b) s.entries → s.errors ≡ 0) where
    two-clean : Children (Fits input a lent) Second Spans (r.entries ++ s.entries) → Off (absorbs a ++ absorbs b) (r.entries ++ s.entries)
        → any r.errors + any s.errors ≡ 0
    two-clean c off =
        let fa = first_asked (Fits input a lent) Second Spans h k (fits-size input a lent) c in
        let fb = second_asked (Fits input a lent) Second Spans h k (fits-size input a lent) c in
        let off-a = off_first _ r.entries s.entries off in
        let off-b = off_second _ r.entries s.entries off in
        no_errors r.errors s.errors
        (first fa (off_fewer _ _ (fewer-first (absorbs a) (absorbs b)) r.entries off-a))
        (second fb (off_fewer _ _ (fewer-second (absorbs a) (absorbs b)) s.entries off-b))

  module _ (lent : List ℤ) (n o : ℕ) where
    -- bits and signed: a span of w bits is not empty
    wide_clean : (t : Tree) (w : ℕ) (z : ℤ) → 1 ≤ w → ((e : Entry) (run : List Entry) → Fits input t lent e run → e.end ≡ e.begin + w)
        → FitsClean t lent (read_bits input n o w z)
    unfolding read_bits reading
    wide_clean t w z h wide =
        by_test (FitsClean t lent) (leb (o + w) (total input)) (λ e f off. refl) (λ e f off. absurd (omega (arith, wide _ _ f)))

    then-clean : (a b : Tree) → FitsClean a lent (read input a lent o) → FitsClean b lent (read input b lent (read input a lent o).end)
        → FitsClean (then n a b) lent (read input (then n a b) lent o)
    unfolding read two_sides reading Fits absorbs
    then-clean a b first second f off =
        two-clean lent a b (read_headed input a lent o) (read_headed input b lent (read input a lent o).end) (λ f. Fits input b lent) (EndToEnd _)
        first second f.1 off.1

    -- what is lent to the second is what the first's entry records
    bind-clean : (a b : Tree) → is_number_tree a ≡ true → Sound a → FitsClean a lent (read input a lent o)
        → ((z : ℤ) → FitsClean b (z ∷ lent) (read input b (z ∷ lent) (read input a lent o).end))
        → FitsClean (bind n a b) lent (read input (bind n a b) lent o)
    unfolding read two_sides reading Fits absorbs
    bind-clean a b is sound first second f off =
        let r = read input a lent o in
        let h = read_headed input a lent o in
        let lend = cond (eqb r.code fail) (pos 0) r.number in
        let same = lent-number input a r (numbered input a is sound lent o) h.own h.number in
        two-clean lent a b h (read_headed input b (lend ∷ lent) r.end) (λ f. Fits input b (recorded a f ∷ lent)) (EndToEnd _) first
        (λ fits. second lend (subst (λ (y : ℤ). FitsRun input b (y ∷ lent) (read input b (lend ∷ lent) r.end).entries) (sym same) fits))
        f.1 off.1

    both-clean : (a b : Tree) → FitsClean a lent (read input a lent o) → FitsClean b lent (read input b lent o)
        → FitsClean (both n a b) lent (read input (both n a b) lent o)
    unfolding read two_sides reading Fits absorbs
    both-clean a b first second f off =
        two-clean lent a b (read_headed input a lent o) (read_headed input b lent o) (λ f. Fits input b lent) (SameBegin _) first second f.1 off.1

    -- the first is taken where it is clean; the second is, where it fits
    either-clean : (a b : Tree) → FitsClean b lent (read input b lent o) → FitsClean (either n a b) lent (read input (either n a b) lent o)
    unfolding read reading Fits absorbs
    either-clean a b second =
        by_test (FitsClean (either n a b) lent) (eqb (read input a lent o).errors 0)
        (λ e f off. any_none _ (eqb-true (read input a lent o).errors 0 e))
        (λ e f off.
        ⊎_elim (λ one. absurd (omega (arith, one.0)))
        (λ two.
        any_none _
        (second (child_asked (Fits input b lent) _ _ two.1) (off_fewer _ _ (fewer-second (absorbs a) (absorbs b)) (read input b lent o).entries off.1)))
        f.1)

    -- a child that is clean is not failed, and the relation holds of the number that was read
    module _ (a : Tree) (r : Relation) (x : Operand) (is : is_number_tree a ≡ true) (sound : Sound a) (child : FitsClean a lent (read input a lent o)) where
      -- what a where asks of its child
      abbrev Wanted : Run
      Wanted c run = Fits input a lent c run × (word (read input a lent o).number ≡ c.number) × (holds r (recorded a c) (value_of lent x) ≡ true)

      child-clean : Asked Wanted (read input a lent o).entries → Off (absorbs a) (read input a lent o).entries
          → ((read input a lent o).errors ≡ 0) × (holds r (read input a lent o).number (value_of lent x) ≡ true)
      child-clean wanted off =
          let s = read input a lent o in
          let h = read_headed input a lent o in
          let w = asked_head Wanted h wanted in
          let same = recorded-number input a s (numbered input a is sound lent o) h.own h.number in
          (child (head_asked (Fits input a lent) h w.0) off, subst (λ (z : ℤ). holds r z (value_of lent x) ≡ true) same w.2)

      where_clean : FitsClean (where' n a r x) lent (read input (where' n a r x) lent o)
      unfolding read reading Fits absorbs
      where_clean =
          by_test (FitsClean (where' n a r x) lent) (eqb (read input a lent o).code fail)
          (λ e f off.
          let clean = child-clean (child_asked Wanted _ _ f.1) off.1 in
          absurd (omega (arith, clean-ok input a lent o clean.0, eqb-true (read input a lent o).code fail e)))
          (λ e f off.
          let clean = child-clean (child_asked Wanted _ _ f.1) off.1 in
          rw clean.1 (omega (arith, any_none (read input a lent o).errors clean.0)))

    scan-clean : (a : Tree) → FitsClean (scan n a) lent (read input (scan n a) lent o)
    unfolding read reading Fits
    scan-clean a =
        by_search (FitsClean (scan n a) lent) (first_start (read input a lent) (total input - o) o)
        (λ e f off. let z : ◌≡◌ {A = ℕ} 0 1 = cc f.2.is in absurd (omega arith))
        (λ p e f off. any_none (p - o) f.1)

    -- the parts are those that were read, by sizes
    sequence-clean : (e s t : Tree) (x : Operand) → ((p : ℕ) → FitsClean e lent (read input e lent p)) → ((p : ℕ) → FitsClean s lent (read input s lent p))
        → FitsClean (sequence n e s t x) lent (read input (sequence n e s t x) lent o)
    unfolding read reading Fits absorbs
    sequence-clean e s t x element separator f off =
        let ns = absorbs e ++ absorbs s ++ absorbs t in
        let fewer-e : Fewer ns (absorbs e) = λ k h. fewer-first (absorbs e) (absorbs s) k (fewer-first (absorbs e ++ absorbs s) (absorbs t) k h) in
        let fewer-s : Fewer ns (absorbs s) = λ k h. fewer-second (absorbs e) (absorbs s) k (fewer-first (absorbs e ++ absorbs s) (absorbs t) k h) in
        turns-clean (read input e lent) (read input s lent) (done_at input (value_of lent x) (read input t lent)) (Fits input e lent) (Fits input s lent)
        (node_of e) (node_of s) (read_headed input e lent) (read_headed input s lent) (fits-size input e lent) (fits-size input s lent)
        (Off ns) (off_first ns) (off_second ns)
        (λ p fits o-e. element p fits (off_fewer ns (absorbs e) fewer-e (read input e lent p).entries o-e))
        (λ p fits o-s. separator p fits (off_fewer ns (absorbs s) fewer-s (read input s lent p).entries o-s))
        (total input - o) o _ _ _ (⊎_elim (λ none. inl none.0) inr f.1) off.1

  -- An entry that fits, with no entry of an absorb node at or beneath it, has zero errors.
  pub fits-clean : (t : Tree) → Sound t → (lent : List ℤ) (o : ℕ) → FitsClean t lent (read input t lent o)
  unfolding read reading Fits absorbs is_in
  fits-clean (unit n) sound lent o = λ f off. refl
  fits-clean (bottom n) sound lent o = λ f off. absurd f
  fits-clean (bits n w) sound lent o = wide_clean lent n o (bits n w) w _ sound.0 (λ e run f. f.1)
  fits-clean (signed n w) sound lent o = wide_clean lent n o (signed n w) w _ sound.0 (λ e run f. f.1)
  fits-clean (then n a b) sound lent o = then-clean lent n o a b (fits-clean a sound.0 lent o) (fits-clean b sound.1 lent (read input a lent o).end)
  fits-clean (bind n a b) sound lent o =
      bind-clean lent n o a b sound.0 sound.1 (fits-clean a sound.1 lent o) (λ z. fits-clean b sound.2 (z ∷ lent) (read input a lent o).end)
  fits-clean (either n a b) sound lent o = either-clean lent n o a b (fits-clean b sound.1 lent o)
  fits-clean (both n a b) sound lent o = both-clean lent n o a b (fits-clean a sound.0 lent o) (fits-clean b sound.1 lent o)
  fits-clean (where' n a r x) sound lent o = where_clean lent n o a r x sound.0 sound.1 (fits-clean a sound.1 lent o)
  fits-clean (sequence n e s t x) sound lent o = sequence-clean lent n o e s t x (fits-clean e sound.0 lent) (fits-clean s sound.1 lent)
  fits-clean (compute n w f x y) sound lent o = λ f off. refl
  fits-clean (absorb n a) sound lent o = λ f off. absurd (own-absorbed n (absorbs a) off.0)
  fits-clean (scan n a) sound lent o = scan-clean lent n o a

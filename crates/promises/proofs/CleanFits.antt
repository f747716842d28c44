-- What reads with zero errors fits: a lemma for each kind.
use Prim.Native.Nat.{ℕ, ◌+◌, ◌-◌, ◌≤◌}
use mathlib.Core.Bool.{Bool, true, false, cond}
use mathlib.Core.List.{List, [], ◌∷◌}
use mathlib.Core.Logic.{inl, inr}
use mathlib.Core.Path.{◌≡◌, refl, sym, subst}
use native.Mathlib.Nat.{lt_of_lt_of_le}
use native.Mathlib.Omega.{arith}
use lib.Dec.{eqb, leb}
use lib.IntN.{ℤ, pos}
use lib.Pow.{pow_mono}
use borrow.Author.Tests.{leb-true}
use Rattle.bits.specs.Bits.{total, number}
use Rattle.bits.specs.Whole.{word}
use Rattle.bits.proofs.Numbers.{number-below, number_small}
use Rattle.bits.proofs.Words.{modulo-below, signed_word}
use Rattle.description.specs.Nodes.{Relation, Operator, Operand}
use Rattle.description.specs.Trees.{Tree, unit, bottom, bits, signed, then, bind, either, both, where', sequence, compute, absorb, scan}
use Rattle.description.proofs.Choice.{by_test, by_search}
use Rattle.rules.specs.Entries.{Entry, Reading, reading, any, ok, fail}
use Rattle.rules.specs.Fitting.{recorded, Leaf, Fits}
use Rattle.rules.specs.Numbers.{value_of, holds, result}
use Rattle.rules.specs.Reading.{two_sides, read_bits, done_at, read}
use Rattle.rules.specs.Tries.{first_start}
use Rattle.rules.proofs.Heads.{node_of, read_headed}
use Rattle.rules.proofs.Tries.{found-start}
use Rattle.promises.proofs.CleanRounds.{clean-turns}
use Rattle.promises.proofs.Codes.{any-clean, sides_clean}
use Rattle.promises.proofs.Numbers.{word_small, numbered, recorded-number, lent-number}
use Rattle.promises.proofs.Runs.{FitsRun, asked_head, head_asked, one-child, end_to_end, same-begin}
use Rattle.promises.proofs.Sound.{is_number_tree, Sound}

-- no error of the child, and a relation that holds
true-clean : (e : ℕ) (holds : Bool) → any e + cond holds 0 1 ≡ 0 → (e ≡ 0) × (holds ≡ true)
true-clean e true z = (any-clean e (omega arith), refl)
true-clean e false z = absurd (omega arith)

-- A node's entry alone.
pub alone : (n : ℕ) (e : Entry) → e.node ≡ n → e.size ≡ 1 → Leaf n e []
alone n e node size = record { stands = record { node = node; size = size }; alone = refl }

module _ (input : List ℕ) where
  -- what is shown of a reading of a tree
  abbrev CleanFits : Tree → List ℤ → Reading → Type 0
  CleanFits t lent r = r.errors ≡ 0 → FitsRun input t lent r.entries

  module _ (lent : List ℤ) (n o : ℕ) where
    -- bits and signed: with no error the bits are all there
    there_fits : (t : Tree) (w : ℕ) (z : ℤ) → (o + w ≤ total input → FitsRun input t lent (reading n o (o + w) 0 ok z 0 []).entries)
        → CleanFits t lent (read_bits input n o w z)
    unfolding read_bits reading
    there_fits t w z fits =
        by_test (CleanFits t lent) (leb (o + w) (total input)) (λ e y. fits (leb-true (o + w) (total input) e)) (λ e y. absurd (omega arith))

    compute-fits : (w : ℕ) (f : Operator) (x y : Operand) → w ≤ 32 → CleanFits (compute n w f x y) lent (read input (compute n w f x y) lent o)
    unfolding read reading Fits
    compute-fits w f x y h z =
        (alone n _ refl refl, refl, word_small _ (lt_of_lt_of_le (modulo-below w (result f (value_of lent x) (value_of lent y))) (pow_mono h)))

    -- "Then, bind: both children fit, end to end."
    then-fits : (a b : Tree) → CleanFits a lent (read input a lent o) → CleanFits b lent (read input b lent (read input a lent o).end)
        → CleanFits (then n a b) lent (read input (then n a b) lent o)
    unfolding read two_sides reading Fits
    then-fits a b first second z =
        let r = read input a lent o in
        let clean = sides_clean r.errors (read input b lent r.end).errors z in (
          record { node = refl; size = refl },
          end_to_end (Fits input a lent) (λ f. Fits input b lent) (read_headed input a lent o) (read_headed input b lent r.end)
              (first clean.0) (second clean.1) _ refl refl refl,
        )

    -- what is lent to the second is what the first's entry records
    bind-fits : (a b : Tree) → is_number_tree a ≡ true → Sound a → CleanFits a lent (read input a lent o)
        → ((z : ℤ) → CleanFits b (z ∷ lent) (read input b (z ∷ lent) (read input a lent o).end))
        → CleanFits (bind n a b) lent (read input (bind n a b) lent o)
    unfolding read two_sides reading Fits
    bind-fits a b is sound first second z =
        let r = read input a lent o in
        let h = read_headed input a lent o in
        let lend = cond (eqb r.code fail) (pos 0) r.number in
        let clean = sides_clean r.errors (read input b (lend ∷ lent) r.end).errors z in
        let same = lent-number input a r (numbered input a is sound lent o) h.own h.number in (
          record { node = refl; size = refl },
          end_to_end (Fits input a lent) (λ f. Fits input b (recorded a f ∷ lent)) h (read_headed input b (lend ∷ lent) r.end)
              (first clean.0)
              (subst (λ (y : ℤ). FitsRun input b (y ∷ lent) (read input b (lend ∷ lent) r.end).entries) same (second lend clean.1))
              _ refl refl refl,
        )

    -- "Both: both fit from the same begin, the end is the larger."
    both-fits : (a b : Tree) → CleanFits a lent (read input a lent o) → CleanFits b lent (read input b lent o)
        → CleanFits (both n a b) lent (read input (both n a b) lent o)
    unfolding read two_sides reading Fits
    both-fits a b first second z =
        let clean = sides_clean (read input a lent o).errors (read input b lent o).errors z in (
          record { node = refl; size = refl },
          same-begin (Fits input a lent) (λ f. Fits input b lent) (read_headed input a lent o) (read_headed input b lent o)
              (first clean.0) (second clean.1) _ refl refl refl,
        )

    -- "Either: the entry beneath is the one that detail names and it fits."
    either-fits : (a b : Tree) → CleanFits a lent (read input a lent o) → CleanFits b lent (read input b lent o)
        → CleanFits (either n a b) lent (read input (either n a b) lent o)
    unfolding read reading Fits
    either-fits a b first second =
        by_test (CleanFits (either n a b) lent) (eqb (read input a lent o).errors 0)
        (λ e z. (
          record { node = refl; size = refl },
          inl (refl, one-child (Fits input a lent) (read_headed input a lent o) _ refl refl (first (any-clean (read input a lent o).errors z))),
        ))
        (λ e z. (
          record { node = refl; size = refl },
          inr (refl, one-child (Fits input b lent) (read_headed input b lent o) _ refl refl (second (any-clean (read input b lent o).errors z))),
        ))

    -- "Absorb: some entries for its child over that span fit": those that were not kept.
    absorb-fits : (a : Tree) → CleanFits a lent (read input a lent o) → CleanFits (absorb n a) lent (read input (absorb n a) lent o)
    unfolding read reading Fits
    absorb-fits a child z = (
      alone n _ refl refl,
      ((read input a lent o).entries, one-child (Fits input a lent) (read_headed input a lent o) _ refl refl (child (any-clean (read input a lent o).errors z))),
    )

    -- "Scan: detail 0, and a child entry stands beneath it and fits."
    scan-fits : (a : Tree) → ((p : ℕ) → CleanFits a lent (read input a lent p)) → CleanFits (scan n a) lent (read input (scan n a) lent o)
    unfolding read reading Fits
    scan-fits a child =
        by_search (CleanFits (scan n a) lent) (first_start (read input a lent) (total input - o) o) (λ e z. absurd (omega arith))
        (λ p e z.
        let f = found-start (read input a lent) (total input - o) o p e in
        let none-skipped : p - o ≡ 0 = any-clean (p - o) z in
        let here : p ≡ o = omega (arith, f.0) in (
          record { node = refl; size = refl },
          none-skipped,
          one-child (Fits input a lent) (read_headed input a lent p) _ here refl (child p f.2),
        ))

    -- "Where: child fits, number equal, relation true."
    where_fits : (a : Tree) (r : Relation) (x : Operand) → is_number_tree a ≡ true → Sound a → CleanFits a lent (read input a lent o)
        → CleanFits (where' n a r x) lent (read input (where' n a r x) lent o)
    unfolding read reading Fits
    where_fits a r x is sound child =
        by_test (CleanFits (where' n a r x) lent) (eqb (read input a lent o).code fail) (λ e z. absurd (omega arith))
        (λ e z.
        let s = read input a lent o in
        let h = read_headed input a lent o in
        let clean = true-clean s.errors (holds r s.number (value_of lent x)) z in
        let same = recorded-number input a s (numbered input a is sound lent o) h.own h.number in (
          record { node = refl; size = refl },
          one-child (λ c run. Fits input a lent c run × (word s.number ≡ c.number) × (holds r (recorded a c) (value_of lent x) ≡ true)) h _ refl refl
              (head_asked _ h (asked_head (Fits input a lent) h (child clean.0), sym h.number, rw same clean.1)),
        ))

    -- "Sequence: its parts, if any, are by turns element and separator, first and last an element; all fit, end to end, and detail counts the
    -- elements."
    sequence-fits : (e s t : Tree) (x : Operand) → ((p : ℕ) → CleanFits e lent (read input e lent p)) → ((p : ℕ) → CleanFits s lent (read input s lent p))
        → CleanFits (sequence n e s t x) lent (read input (sequence n e s t x) lent o)
    unfolding read reading Fits
    sequence-fits e s t x element separator z = (
      record { node = refl; size = refl },
      clean-turns (read input e lent) (read input s lent) (done_at input (value_of lent x) (read input t lent)) (Fits input e lent) (Fits input s lent)
          (node_of e) (node_of s) (read_headed input e lent) (read_headed input s lent) element separator (total input - o) o z,
    )

  -- An entry with zero errors fits.
  pub clean-fits : (t : Tree) → Sound t → (lent : List ℤ) (o : ℕ) → CleanFits t lent (read input t lent o)
  unfolding read reading Fits
  clean-fits (unit n) sound lent o = λ z. (alone n _ refl refl, refl)
  clean-fits (bottom n) sound lent o = λ z. absurd (omega arith)
  clean-fits (bits n w) sound lent o =
      there_fits lent n o (bits n w) w _ (λ h. (alone n _ refl refl, refl, h, word_small (number input o w) (number_small input o w sound.1)))
  clean-fits (signed n w) sound lent o =
      there_fits lent n o (signed n w) w _ (λ h. (alone n _ refl refl, refl, h, signed_word w (number input o w) sound.1 (number-below input o w)))
  clean-fits (then n a b) sound lent o = then-fits lent n o a b (clean-fits a sound.0 lent o) (clean-fits b sound.1 lent (read input a lent o).end)
  clean-fits (bind n a b) sound lent o =
      bind-fits lent n o a b sound.0 sound.1 (clean-fits a sound.1 lent o) (λ z. clean-fits b sound.2 (z ∷ lent) (read input a lent o).end)
  clean-fits (either n a b) sound lent o = either-fits lent n o a b (clean-fits a sound.0 lent o) (clean-fits b sound.1 lent o)
  clean-fits (both n a b) sound lent o = both-fits lent n o a b (clean-fits a sound.0 lent o) (clean-fits b sound.1 lent o)
  clean-fits (where' n a r x) sound lent o = where_fits lent n o a r x sound.0 sound.1 (clean-fits a sound.1 lent o)
  clean-fits (sequence n e s t x) sound lent o = sequence-fits lent n o e s t x (clean-fits e sound.0 lent) (clean-fits s sound.1 lent)
  clean-fits (compute n w f x y) sound lent o = compute-fits lent n o w f x y sound
  clean-fits (absorb n a) sound lent o = absorb-fits lent n o a (clean-fits a sound lent o)
  clean-fits (scan n a) sound lent o = scan-fits lent n o a (clean-fits a sound lent)

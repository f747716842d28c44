-- What reads with zero errors tiles the input from where it begins to where it ends: a lemma for each kind that is written.
use Prim.Native.Nat.{ℕ, zero, suc, ◌+◌, ◌-◌, ◌%◌, ◌^◌, ◌≤◌}
use mathlib.Core.Bool.{true, false, cond, true≢false}
use mathlib.Core.List.{List, [], ◌∷◌, ◌++◌}
use mathlib.Core.Path.{◌≡◌, refl, sym, ap, ◌∙◌}
use native.Mathlib.Nat.{mod-eq_of_lt}
use native.Mathlib.Omega.{arith}
use lib.Dec.{eqb, leb}
use lib.IntN.{ℤ, pos}
use lib.ListN.{get_or}
use borrow.Author.Tests.{lt-ltb, eq-eqb}
use Rattle.bits.specs.Bits.{total, number}
use Rattle.bits.specs.Whole.{twos_complement, modulo, word}
use Rattle.bits.proofs.Numbers.{number-below, number_small}
use Rattle.bits.proofs.Words.{modulo_twos, word-modulo}
use Rattle.description.specs.Trees.{Tree, unit, bottom, bits, signed, then, bind, either, both, where', sequence, compute, absorb, scan}
use Rattle.std.proofs.lemmas.Bool.{or_parts}
use Rattle.description.proofs.Choice.{by_test}
use Rattle.rules.specs.Entries.{Entry, Reading, reading, fail}
use Rattle.rules.specs.Numbers.{value_of}
use Rattle.rules.specs.Rounds.{rounds}
use Rattle.rules.specs.Reading.{two_sides, read_bits, done_at, read}
use Rattle.promises.proofs.Codes.{any-clean, sides_clean}
use Rattle.promises.proofs.Numbers.{word_small}
use Rattle.promises.proofs.Sound.{Sound}
use Rattle.writing.specs.Bits.{width_of, in_width, field_bits, of_width}
use Rattle.writing.specs.Fields.{is_unwritable, some_unwritable}
use Rattle.writing.specs.declared.Field.{Field}
use Rattle.writing.specs.declared.Field.TheVariants.{Nothing, Bits, Signed, Unwritable}
use Rattle.writing.proofs.Fielded.{Own, Fielded}
use Rattle.writing.proofs.Rows.{row, row_of}
use Rattle.writing.proofs.TiledRounds.{CleanTiled, rounds-tiled}
use Rattle.writing.proofs.Tiling.{Spanned, tiled_append, one-tile, no_tile}

-- where no field is unwritable, no node has such a one
none_unwritable : (fields : List Field) (n : ℕ) → some_unwritable fields ≡ false → is_unwritable (get_or fields n Nothing) ≡ false
unfolding some_unwritable is_unwritable
none_unwritable [] n e = refl
none_unwritable (f ∷ fields) zero e = (or_parts (is_unwritable f) (some_unwritable fields) e).0
none_unwritable (f ∷ fields) (suc n) e = none_unwritable fields n (or_parts (is_unwritable f) (some_unwritable fields) e).1

module _ (input : List ℕ) (fields : List Field) (writable : some_unwritable fields ≡ false) where
  refused : {A : Type 0} (n : ℕ) → Own fields n Unwritable → A
  unfolding is_unwritable
  refused n own = absurd (true≢false (rw own.is at (none_unwritable fields n writable)))

  module _ (n o : ℕ) where
    -- A number of w bits that are all there, in a field that is written as them.
    number-tiled : (f : Field) (w : ℕ) (z : ℤ) → Own fields n f → width_of f ≡ w → of_width f (word z) ≡ true → field_bits f (word z) ≡ row input o w
        → ((e : Entry) → e.begin ≡ o → e.end ≡ o + w → Spanned f o e) → CleanTiled input fields o (read_bits input n o w z)
    unfolding read_bits reading
    number-tiled f w z own is fits as_read spans =
        by_test (CleanTiled input fields o) (leb (o + w) (total input))
        (λ e y. one-tile input fields o _ [] (o + w) f own fits (as_read ∙ ap (row input o) (sym is)) (spans _ refl refl) (ap (λ (k : ℕ). o + k) is))
        (λ e y. absurd (omega arith))

    module _ (w : ℕ) (h : w ≤ 32) where
      -- the low bits of a number's word are those of the input where its own are
      word_row : (z : ℤ) → modulo w z ≡ number input o w → in_width w (word z) ≡ row input o w
      word_row z e = row_of input o w (word z) (word-modulo w z h ∙ e)

      bits-tiled : Own fields n (Bits w) → CleanTiled input fields o (read_bits input n o w (pos (number input o w)))
      unfolding field_bits of_width modulo
      bits-tiled own =
          let m = number input o w in
          let itself = word_small m (number_small input o w h) in
          number-tiled (Bits w) w (pos m) own refl
          (rw itself (lt-ltb m (2 ^ w) (number-below input o w)))
          (word_row (pos m) (mod-eq_of_lt (number-below input o w)))
          (λ e begin end. (begin, end))

      signed-tiled : Own fields n (Signed w) → CleanTiled input fields o (read_bits input n o w (twos_complement w (number input o w)))
      unfolding field_bits of_width
      signed-tiled own =
          let m = number input o w in
          let z = twos_complement w m in
          let own_bits = modulo_twos w m (number-below input o w) in
          let low : word z % 2 ^ w ≡ m = word-modulo w z h ∙ own_bits in
          number-tiled (Signed w) w z own refl
          (rw low (eq-eqb (word z) (word z) refl))
          (word_row z own_bits)
          (λ e begin end. (begin, end))

    -- then and bind: the second from where the first ends
    sides_tiled : (a b : Reading) → Own fields n Nothing → CleanTiled input fields o a → CleanTiled input fields a.end b
        → CleanTiled input fields o (two_sides n o b.end a b)
    unfolding two_sides reading
    sides_tiled a b own first second z =
        let clean = sides_clean a.errors b.errors z in
        no_tile input fields o _ (a.entries ++ b.entries) b.end own
        (tiled_append input fields o a.end b.end a.entries b.entries (first clean.0) (second clean.1))

  pub clean-tiled : (t : Tree) → Fielded fields t → Sound t → (lent : List ℤ) (o : ℕ) → CleanTiled input fields o (read input t lent o)
  unfolding read reading
  clean-tiled (unit n) own sound lent o = λ z. no_tile input fields o _ [] o own refl
  clean-tiled (bottom n) own sound lent o = λ z. absurd (omega arith)
  clean-tiled (bits n w) own sound lent o = bits-tiled n o w sound.1 own
  clean-tiled (signed n w) own sound lent o = signed-tiled n o w sound.1 own
  clean-tiled (then n a b) own sound lent o =
      let r = read input a lent o in
      sides_tiled n o r (read input b lent r.end) own.0 (clean-tiled a own.1 sound.0 lent o) (clean-tiled b own.2 sound.1 lent r.end)
  clean-tiled (bind n a b) own sound lent o =
      let r = read input a lent o in
      let more = cond (eqb r.code fail) (pos 0) r.number ∷ lent in
      sides_tiled n o r (read input b more r.end) own.0 (clean-tiled a own.1 sound.1 lent o) (clean-tiled b own.2 sound.2 more r.end)
  clean-tiled (either n a b) own sound lent o =
      let r = read input a lent o in
      let s = read input b lent o in
      by_test (CleanTiled input fields o) (eqb r.errors 0)
      (λ e z. no_tile input fields o _ r.entries r.end own.0 (clean-tiled a own.1 sound.0 lent o (any-clean r.errors z)))
      (λ e z. no_tile input fields o _ s.entries s.end own.0 (clean-tiled b own.2 sound.1 lent o (any-clean s.errors z)))
  clean-tiled (both n a b) own sound lent o = refused n own.0
  clean-tiled (where' n a r x) own sound lent o =
      let s = read input a lent o in
      by_test (CleanTiled input fields o) (eqb s.code fail) (λ e z. absurd (omega arith))
      (λ e z. no_tile input fields o _ s.entries s.end own.0 (clean-tiled a own.1 sound.1 lent o (any-clean s.errors (omega arith))))
  clean-tiled (sequence n e s t x) own sound lent o =
      let done = done_at input (value_of lent x) (read input t lent) in
      let r = rounds (read input e lent) (read input s lent) done (total input - o) o in
      λ z.
      no_tile input fields o _ r.entries r.end own.0
      (rounds-tiled input fields (read input e lent) (read input s lent) done
      (clean-tiled e own.1 sound.0 lent) (clean-tiled s own.2 sound.1 lent) (total input - o) o z)
  clean-tiled (compute n w f x y) own sound lent o = λ z. no_tile input fields o _ [] o own refl
  clean-tiled (absorb n a) own sound lent o = refused n own.0
  clean-tiled (scan n a) own sound lent o = refused n own.0

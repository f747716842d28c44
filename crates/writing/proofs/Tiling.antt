-- Entries that tile a row of the input: the numbers of the bits and signed entries, one after another, are its bits without a gap.
use Prim.Native.Nat.{ℕ, zero, suc, ◌+◌, ◌<◌}
use mathlib.Core.Bool.{true}
use mathlib.Core.List.{List, [], ◌∷◌, ◌++◌}
use mathlib.Core.Path.{◌≡◌, refl, sym, ap, subst}
use native.Mathlib.Nat.{add-zero}
use native.Mathlib.Omega.{arith}
use lib.ListN.{length}
use Rattle.rules.specs.Entries.{Entry}
use Rattle.writing.specs.Bits.{width_of, in_width, field_bits, of_width}
use Rattle.writing.specs.declared.Field.{Field}
use Rattle.writing.specs.declared.Field.TheVariants.{Nothing, Bits, Signed, Unwritable}
use Rattle.writing.proofs.Fielded.{Own}
use Rattle.writing.proofs.Listed.{field_for, entry_bits, Right, AllRight}
use Rattle.writing.proofs.Rows.{row, row_append}

-- The span of a number's entry, from o on.
abbrev pub Spanned : Field → ℕ → Entry → Type 0
Spanned Nothing o e = Unit
Spanned (Bits w) o e = (e.begin ≡ o) × (e.end ≡ o + w)
Spanned (Signed w) o e = (e.begin ≡ o) × (e.end ≡ o + w)
Spanned Unwritable o e = Unit

module _ (input : List ℕ) (fields : List Field) where
  -- An entry whose number is written as the bits of the input from o on, and whose span has them.
  pub record Tile (o : ℕ) (e : Entry) : Type 0 where
    pub right : Right fields e
    pub bits : field_bits (field_for fields e) e.number ≡ row input o (width_of (field_for fields e))
    pub spans : Spanned (field_for fields e) o e

  abbrev pub Tiled : ℕ → List Entry → ℕ → Type 0
  Tiled o [] end = o ≡ end
  Tiled o (e ∷ es) end = Tile o e × Tiled (o + width_of (field_for fields e)) es end

  pub tiled_append : (o mid end : ℕ) (xs ys : List Entry) → Tiled o xs mid → Tiled mid ys end → Tiled o (xs ++ ys) end
  tiled_append o mid end [] ys f g = subst (λ (k : ℕ). Tiled k ys end) (sym f) g
  tiled_append o mid end (x ∷ xs) ys f g = (f.0, tiled_append (o + width_of (field_for fields x)) mid end xs ys f.1 g)

  -- An entry of a field, from what is so of that field.
  pub one-tile : (o : ℕ) (e : Entry) (es : List Entry) (end : ℕ) (f : Field) → Own fields e.node f → of_width f e.number ≡ true
      → field_bits f e.number ≡ row input o (width_of f) → Spanned f o e → Tiled (o + width_of f) es end → Tiled o (e ∷ es) end
  one-tile o e es end f own fits bits spans rest = (
    record { right = record { known = own.known; fits = rw own.is fits }; bits = rw own.is bits; spans = rw own.is spans },
    rw own.is rest,
  )

  -- An entry of which nothing is written.
  pub no_tile : (o : ℕ) (e : Entry) (es : List Entry) (end : ℕ) → Own fields e.node Nothing → Tiled o es end → Tiled o (e ∷ es) end
  unfolding of_width field_bits in_width row
  no_tile o e es end own rest = one-tile o e es end Nothing own refl refl tt (rw add-zero rest)

  -- What is tiled is written as the row of the input,
  pub tiled-row : (o end : ℕ) (es : List Entry) → Tiled o es end → (n : ℕ) × (end ≡ o + n) × (entry_bits fields es ≡ row input o n)
  unfolding entry_bits row
  tiled-row o end [] f = (0, omega arith, refl)
  tiled-row o end (e ∷ es) f =
      let w = width_of (field_for fields e) in
      let r = tiled-row (o + w) end es f.1 in
      (w + r.0, omega (arith, r.1), cc (f.0.bits, r.2, row_append input o w r.0))

  -- and no entry of it is wrong.
  pub tiled-right : (o end : ℕ) (es : List Entry) → Tiled o es end → AllRight fields es
  tiled-right o end [] f = tt
  tiled-right o end (e ∷ es) f = (f.0.right, tiled-right (o + width_of (field_for fields e)) end es f.1)

  -- Entry i of them, with those before and after it.
  pub record Parted (o end : ℕ) (es : List Entry) (i : ℕ) : Type 0 where
    pub before : List Entry
    pub entry : Entry
    pub after : List Entry
    pub are : es ≡ before ++ entry ∷ after
    pub place : length before ≡ i
    pub begin : ℕ
    pub first : Tiled o before begin
    pub tile : Tile begin entry
    pub last : Tiled (begin + width_of (field_for fields entry)) after end

  pub parted : (o end : ℕ) (es : List Entry) (i : ℕ) → Tiled o es end → i < length es → Parted o end es i
  parted o end [] i f h = absurd (omega arith)
  parted o end (e ∷ es) zero f h =
      record { before = []; entry = e; after = es; are = refl; place = refl; begin = o; first = refl; tile = f.0; last = f.1 }
  parted o end (e ∷ es) (suc i) f h =
      let p = parted (o + width_of (field_for fields e)) end es i f.1 (omega arith) in
      record {
        before = e ∷ p.before;
        entry = p.entry;
        after = p.after;
        are = ap (λ xs. e ∷ xs) p.are;
        place = ap suc p.place;
        begin = p.begin;
        first = (f.0, p.first);
        tile = p.tile;
        last = p.last;
      }

-- What the writer makes of a table whose entries are those of a list.
use Prim.Native.Nat.{ℕ, suc, ◌<◌}
use mathlib.Core.Bool.{true, false, not, ◌&&◌}
use mathlib.Core.List.{List, [], ◌∷◌, ◌++◌, append_assoc}
use mathlib.Core.Path.{◌≡◌, refl, sym, subst}
use lib.Dec.{ltb}
use lib.ListN.{length, get_or}
use borrow.Author.Tests.{lt-ltb}
use Rattle.rules.specs.Entries.{Entry}
use Rattle.promises.specs.Table.{entry_at}
use Rattle.promises.proofs.Agreeing.{Agrees}
use Rattle.writing.specs.Bits.{field_bits, of_width}
use Rattle.writing.specs.Entries.{entry_words, node_at, number_at, field_at, is_wrong, some_wrong, bits_from}
use Rattle.writing.specs.declared.Field.{Field}
use Rattle.writing.specs.declared.Field.TheVariants.{Nothing}

module _ (fields : List Field) where
  -- The field of an entry.
  abbrev pub field_for : Entry → Field
  field_for e = get_or fields e.node Nothing

  -- The bits that entries are written as.
  unfoldable pub entry_bits : List Entry → List ℕ
  entry_bits [] = []
  entry_bits (e ∷ es) = field_bits (field_for e) e.number ++ entry_bits es

  -- No entry is wrong.
  pub record Right (e : Entry) : Type 0 where
    pub known : e.node < length fields
    pub fits : of_width (field_for e) e.number ≡ true

  abbrev pub AllRight : List Entry → Type 0
  AllRight [] = Unit
  AllRight (e ∷ es) = Right e × AllRight es

  pub entry_bits_append : (xs ys : List Entry) → entry_bits (xs ++ ys) ≡ entry_bits xs ++ entry_bits ys
  unfolding entry_bits
  entry_bits_append [] ys = refl
  entry_bits_append (x ∷ xs) ys = rw (entry_bits_append xs ys, append_assoc)

  pub right_append : (xs ys : List Entry) → AllRight xs → AllRight ys → AllRight (xs ++ ys)
  right_append [] ys f g = g
  right_append (x ∷ xs) ys f g = (f.0, right_append xs ys f.1 g)

  right_not_wrong : (e : Entry) → Right e → not (ltb e.node (length fields) && of_width (field_for e) e.number) ≡ false
  right_not_wrong e r = rw (lt-ltb e.node (length fields) r.known, r.fits)

  -- a table that has the entries of the list from entry i on
  module _ (values descriptors : List ℕ) where
    pub listed-bits : (es : List Entry) (i : ℕ) → Agrees (entry_at values descriptors) i es → bits_from values fields i (length es) ≡ entry_bits es
    unfolding bits_from entry_bits field_at node_at number_at entry_words entry_at
    listed-bits [] i a = refl
    listed-bits (e ∷ es) i a = cc (listed-bits es (suc i) a.1, a.0)

    pub none-wrong : (es : List Entry) (i : ℕ) → Agrees (entry_at values descriptors) i es → AllRight es → some_wrong values fields i (length es) ≡ false
    unfolding some_wrong is_wrong field_at node_at number_at entry_words entry_at
    none-wrong [] i a f = refl
    none-wrong (e ∷ es) i a f =
        let x = entry_at values descriptors i in
        rw (right_not_wrong x (subst Right (sym a.0) f.0)) (none-wrong es (suc i) a.1 f.1)

-- The round trip with one number replaced: what is written differs from the input in that field's span alone, and there it is the new number.
use Prim.Native.Nat.{ℕ, ◌+◌, ◌*◌, ◌%◌, ◌^◌, ◌≤◌, ◌<◌}
use mathlib.Core.Bool.{true, false}
use mathlib.Core.List.{List, ◌∷◌, ◌++◌}
use mathlib.Core.Logic.{◌⊎◌, inl, inr}
use mathlib.Core.Path.{◌≡◌, sym, ap, subst, ◌∙◌}
use native.Mathlib.Omega.{arith}
use lib.ListN.{length, get_or, length-append, length-set}
use lib.Seq.{ext_get_or}
use Rattle.std.specs.Prelude.{Ok}
use Rattle.bits.specs.Bits.{bit, number}
use Rattle.rules.specs.Entries.{Entry}
use Rattle.rules.specs.Outcome as reader
use Rattle.writing.specs.Bits.{width_of, bytes_for, in_width, field_bits, of_width}
use Rattle.writing.specs.Entries.{entry_words, holds, node_at, field_at}
use Rattle.writing.specs.Fields.{fields_of, some_unwritable}
use Rattle.writing.specs.Outcome.{outcome}
use Rattle.writing.specs.declared.Field.{Field}
use Rattle.writing.specs.declared.Field.TheVariants.{Nothing, Bits, Signed}
use Rattle.writing.proofs.Listed.{field_for, entry_bits, Right, AllRight, entry_bits_append, right_append}
use Rattle.writing.proofs.PackedBits.{packed-bit}
use Rattle.writing.proofs.Replacing.{replaced, same-node, new-number, replaced-agrees}
use Rattle.writing.proofs.Widths.{width_length}
use Rattle.writing.proofs.Rows.{row, row-length, row_at, width_bits, number_of}
use Rattle.writing.proofs.Spliced.{spliced, spliced-length, spliced-bits, spliced-before, spliced-inside, spliced-after}
use Rattle.writing.proofs.Stored.{Stored, stored}
use Rattle.writing.proofs.Tiling.{Spanned, Parted, parted, tiled-row, tiled-right}
use Rattle.writing.proofs.Outcomes.{written}
use Rattle.writing.proofs.Written.{entries-written}
use Rattle.promises.specs.Table.{entry_at}
use Rattle.promises.proofs.Agreeing.{Agrees, agrees-second}

-- A number of w bits.
abbrev pub IsNumber : Field → ℕ → Type 0
IsNumber f w = (f ≡ Bits w) ⊎ (f ≡ Signed w)

-- What is written where entry i, whose number has w bits, has the number m instead.
pub record Changed (n : ℕ) (desc input values descriptors : List ℕ) (count end i w m : ℕ) : Type 0 where
  pub answer : (outcome n desc (replaced values i m) count).answer ≡ Ok end
  -- the field's span
  pub span : (entry_at values descriptors i).end ≡ (entry_at values descriptors i).begin + w
  pub inside : (entry_at values descriptors i).end ≤ end
  -- outside of it are the bits of the input,
  pub elsewhere : (k : ℕ) → k < end → (k < (entry_at values descriptors i).begin) ⊎ ((entry_at values descriptors i).begin + w ≤ k)
      → bit (outcome n desc (replaced values i m) count).buffer k ≡ bit input k
  -- and inside of it those of the new number.
  pub anew : number (outcome n desc (replaced values i m) count).buffer (entry_at values descriptors i).begin w ≡ m % 2 ^ w

-- what a number's field is
width_is : (f : Field) (w : ℕ) → IsNumber f w → width_of f ≡ w
width_is f w (inl e) = ap width_of e
width_is f w (inr e) = ap width_of e

bits_are : (f : Field) (w m : ℕ) → IsNumber f w → field_bits f m ≡ in_width w m
unfolding field_bits
bits_are f w m (inl e) = ap (λ g. field_bits g m) e
bits_are f w m (inr e) = ap (λ g. field_bits g m) e

span-is : (f : Field) (w o : ℕ) (e : Entry) → IsNumber f w → Spanned f o e → (e.begin ≡ o) × (e.end ≡ o + w)
span-is f w o e (inl is) s = subst (λ g. Spanned g o e) is s
span-is f w o e (inr is) s = subst (λ g. Spanned g o e) is s

module _ (n : ℕ) (desc input values descriptors : List ℕ) (count end : ℕ) (writable : some_unwritable (fields_of desc) ≡ false) (room : bytes_for end ≤ n)
    (s : Stored desc input values descriptors count end) (i w m : ℕ) (h : i < count) (is : IsNumber (field_at values (fields_of desc) i) w)
    (fits : of_width (field_at values (fields_of desc) i) m ≡ true) where
  abbrev fields : List Field
  fields = fields_of desc

  p : Parted input fields 0 end s.entries i
  p = parted input fields 0 end s.entries i s.tiled (omega (arith, s.many))

  -- the entry anew
  x : Entry
  x = entry_at (replaced values i m) descriptors i

  changed : List Entry
  changed = p.before ++ x ∷ p.after

  are : Agrees (entry_at values descriptors) 0 (p.before ++ p.entry ∷ p.after)
  are = subst (Agrees (entry_at values descriptors) 0) p.are s.are

  here : entry_at values descriptors i ≡ p.entry
  here =
      let at : 0 + length p.before ≡ i = omega (arith, p.place) in
      subst (λ (k : ℕ). entry_at values descriptors k ≡ p.entry) at (agrees-second (entry_at values descriptors) p.before (p.entry ∷ p.after) 0 are).0

  field-here : field_at values fields i ≡ field_for fields p.entry
  unfolding field_at node_at entry_words entry_at
  field-here = ap (field_for fields) here

  is_number : IsNumber (field_for fields p.entry) w
  is_number = subst (λ f. IsNumber f w) field-here is

  node-anew : x.node ≡ p.entry.node
  unfolding x
  node-anew = same-node values descriptors i m ∙ ap (λ (e : Entry). e.node) here

  field-anew : field_for fields x ≡ field_for fields p.entry
  field-anew = ap (λ (k : ℕ). get_or fields k Nothing) node-anew

  number-anew : x.number ≡ m
  unfolding x holds entry_words
  number-anew = new-number values descriptors i m (omega (arith, s.held))

  -- it is written as the new number's bits
  bits-anew : field_bits (field_for fields x) x.number ≡ in_width w m
  bits-anew = rw (field-anew, number-anew) (bits_are (field_for fields p.entry) w m is_number)

  right-anew : Right fields x
  right-anew =
      record {
        known = rw node-anew p.tile.right.known;
        fits = rw (field-anew, number-anew) (subst (λ f. of_width f m ≡ true) field-here fits);
      }

  all_right : AllRight fields changed
  unfolding changed
  all_right =
      right_append fields p.before (x ∷ p.after) (tiled-right input fields 0 p.begin p.before p.first)
      (right-anew, tiled-right input fields (p.begin + width_of (field_for fields p.entry)) end p.after p.last)

  -- the bits that follow it
  rest : ℕ
  rest = (tiled-row input fields (p.begin + width_of (field_for fields p.entry)) end p.after p.last).0

  -- the row that is written
  line : List ℕ
  line = spliced input p.begin (in_width w m) rest

  whole : end ≡ p.begin + w + rest
  unfolding rest
  whole =
      let back = tiled-row input fields (p.begin + width_of (field_for fields p.entry)) end p.after p.last in
      omega (arith, back.1, width_is (field_for fields p.entry) w is_number)

  line-is : entry_bits fields changed ≡ line
  unfolding entry_bits changed line rest spliced
  line-is =
      let front = tiled-row input fields 0 p.begin p.before p.first in
      let back = tiled-row input fields (p.begin + width_of (field_for fields p.entry)) end p.after p.last in
      let first : entry_bits fields p.before ≡ row input 0 p.begin = front.2 ∙ ap (row input 0) (omega (arith, front.1)) in
      let on : p.begin + width_of (field_for fields p.entry) ≡ p.begin + length (in_width w m) =
      ap (λ (k : ℕ). p.begin + k) (width_is (field_for fields p.entry) w is_number ∙ sym (width_length w m)) in
      let last : entry_bits fields p.after ≡ row input (p.begin + length (in_width w m)) back.0 = back.2 ∙ ap (λ (k : ℕ). row input k back.0) on in
      entry_bits_append fields p.before (x ∷ p.after) ∙ cc (bits-anew)

  line-length : length line ≡ end
  unfolding line
  line-length = omega (arith, spliced-length input p.begin (in_width w m) rest, width_length w m, whole)

  is-written : outcome n desc (replaced values i m) count ≡ written n line
  unfolding x changed holds entry_words bytes_for
  is-written =
      let many : length changed ≡ count =
      omega (arith, length-append p.before (x ∷ p.after), length-append p.before (p.entry ∷ p.after), ap length p.are, s.many) in
      let held : length changed ≤ holds (replaced values i m) = omega (arith, length-set values (entry_words * i + 1) m, s.held) in
      let bits : length (entry_bits fields changed) ≡ end = ap length line-is ∙ line-length in
      ap (outcome n desc (replaced values i m)) (sym many)
      ∙ entries-written n desc s.tree s.means writable (replaced values i m) descriptors changed
      (replaced-agrees values descriptors i m p.before p.entry p.after p.place are) all_right held (omega (arith, s.few))
      ∙ ap (written n) line-is

  abbrev buffer : List ℕ
  buffer = (outcome n desc (replaced values i m) count).buffer

  buffer-bit : (k : ℕ) → k < end → bit buffer k ≡ get_or line k 0
  unfolding bytes_for line
  buffer-bit k l =
      ap (λ o. bit o.buffer k) is-written ∙ packed-bit n k line (spliced-bits input p.begin (in_width w m) rest (width_bits w m)) (omega arith)

  outside : (k : ℕ) → k < end → (k < p.begin) ⊎ (p.begin + w ≤ k) → bit buffer k ≡ bit input k
  unfolding line
  outside k l (inl before) = buffer-bit k l ∙ spliced-before input p.begin (in_width w m) rest k before
  outside k l (inr after) =
      buffer-bit k l
      ∙ spliced-after input p.begin (in_width w m) rest k (omega (arith, width_length w m)) (omega (arith, width_length w m, whole))

  span-row : row buffer p.begin w ≡ in_width w m
  unfolding line
  span-row =
      ext_get_or 0 (row buffer p.begin w) (in_width w m) (row-length buffer p.begin w ∙ sym (width_length w m))
      (λ k l.
      let inside : k < w = omega (arith, row-length buffer p.begin w) in
      row_at buffer p.begin w k inside
      ∙ buffer-bit (p.begin + k) (omega (arith, whole))
      ∙ spliced-inside input p.begin (in_width w m) rest k (omega (arith, width_length w m)))

  pub changed_so : Changed n desc input values descriptors count end i w m
  changed_so =
      let e = p.entry in
      let span = span-is (field_for fields e) w p.begin e is_number p.tile.spans in
      let begin : (entry_at values descriptors i).begin ≡ p.begin = ap (λ (e : Entry). e.begin) here ∙ span.0 in
      let ends : (entry_at values descriptors i).end ≡ p.begin + w = ap (λ (e : Entry). e.end) here ∙ span.1 in
      record {
        answer = ap (λ o. o.answer) is-written ∙ ap Ok line-length;
        span = omega arith;
        inside = omega (arith, whole);
        elsewhere = rw begin outside;
        anew = rw begin (number_of buffer p.begin w m span-row);
      }

-- Of every call of the reader that succeeds with no error at the root, of a description that the writer takes, of a buffer with room, and of every entry
-- of a bits or signed node and every number of its width.
pub replaced-number : (n v d : ℕ) (desc input : List ℕ) (count end : ℕ) → (let o = reader.outcome v d desc input in
    o.answer ≡ reader.success count end → (entry_at o.values o.descriptors 0).errors ≡ 0 → some_unwritable (fields_of desc) ≡ false → bytes_for end ≤ n
    → (i w m : ℕ) → i < count → IsNumber (field_at o.values (fields_of desc) i) w → of_width (field_at o.values (fields_of desc) i) m ≡ true
    → Changed n desc input o.values o.descriptors count end i w m)
replaced-number n v d desc input count end s clean writable room =
    changed_so n desc input _ _ count end writable room (stored v d desc input count end s clean writable)

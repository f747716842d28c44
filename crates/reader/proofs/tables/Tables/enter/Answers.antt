-- The four words of each table are those of the node's own entry, put in the place that was kept for it.
use Rattle.std.proofs.Common.{rules, to_z-of_z, w64, ◌≡◌, ℕ, suc, ◌≤◌, List, [], ◌∷◌, ◌++◌, length, drop, ℤ, ap, ◌∙◌, ap₂, arith}
use Rattle.bits.specs.Whole.{word}
use Rattle.description.specs.Limits.{most_nodes}
use Rattle.rules.specs.Entries.{Entry, reading}
use Rattle.rules.specs.Tables.{value_words, descriptor_words}
use Rattle.reader.specs.Inner.Readings.{counted, made}
use Rattle.reader.specs.Inner.Windows.{Words, value_size, descriptor_size, Holds}
use Rattle.reader.specs.declared.readings.Own.{Own}
use Rattle.reader.specs.declared.readings.Reading.{Reading}
use Rattle.reader.proofs.Windows.{values_laid, descriptors_laid, whole_length, put-own}
use Rattle.reader.proofs.tables.Tables.enter.Goals as goal

pub overflow_cast-own : goal.overflow_cast-own
unfolding most_nodes
overflow_cast-own c = omega arith

-- the reading that is answered, at a number and a size
abbrev answer : Own → ℤ → ℕ → Reading
answer own z n = record { end = own.end; errors = own.errors; code = own.code; number = z; size = n }

-- the words that are put are those of the node's own entry
module _ (own : Own) (room : ℕ) (place : Entry) (beneath : List Entry) (fit : suc (length beneath) ≤ room) (w w' : Words) (h : Holds room (place ∷ beneath) w) where
  abbrev own-entry : Entry
  own-entry =
      record {
        node = own.node;
        number = word own.number;
        detail = own.detail;
        size = suc (length beneath);
        begin = own.begin;
        end = own.end;
        code = own.code;
        errors = own.errors;
      }

  entered : (number size : ℕ) → number ≡ word own.number → size ≡ counted (suc (length beneath))
      → (4 ≤ length w.values → w'.values ≡ (own.node ∷ number ∷ own.detail ∷ size ∷ []) ++ drop 4 w.values)
      → (4 ≤ length w.descriptors → w'.descriptors ≡ (own.begin ∷ own.end ∷ own.code ∷ own.errors ∷ []) ++ drop 4 w.descriptors)
      → Holds room (made own beneath).entries w'
  unfolding reading value_words descriptor_words
  entered number size en es values descriptors =
      let exact : size ≡ suc (length beneath) = omega (arith, h.few) in
      record {
        few = h.few;
        values-are =
            values (omega (arith, whole_length value_size value_words values_laid room (place ∷ beneath) w.values h.values-are fit))
            ∙ ap₂ (λ (a n : ℕ). own.node ∷ a ∷ own.detail ∷ n ∷ drop 4 w.values) en exact
            ∙ put-own value_size value_words values_laid room place own-entry beneath w.values h.values-are;
        descriptors-are =
            descriptors (omega (arith, whole_length descriptor_size descriptor_words descriptors_laid room (place ∷ beneath) w.descriptors h.descriptors-are fit))
            ∙ put-own descriptor_size descriptor_words descriptors_laid room place own-entry beneath w.descriptors h.descriptors-are;
      }

pub returns-clause-entered : goal.returns-clause-entered
unfolding reading
returns-clause-entered c =
    let own = c.args.own in
    let told = to_z-of_z {w = w64} {z = own.number} (search rules) in
    record {
      is = λ beneath e. ap₂ (answer own) told e;
      written = λ room place beneath e fit h.
          entered own room place beneath fit _ _ h _ _
          (c.word_of-number.ensures ∙ ap word told) e c.put.ensures c.put-2.ensures;
    }

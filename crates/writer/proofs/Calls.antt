-- What a whole call is, by what its functions found.
use Rattle.std.proofs.Common.{◌≡◌, ℕ, ◌<◌, ◌≤◌, true, false, List, Ok, map, sym, ap, ◌∙◌}
use Rattle.std.specs.Simd.{first_chunks}
use Rattle.description.specs.Examine.{examined, Rooted}
use Rattle.writing.specs.Entries.{holds}
use Rattle.writing.specs.Fields.{field_of, fields_of, some_unwritable}
use Rattle.writing.specs.Outcome.{refusing, outcome}
use Rattle.writing.specs.declared.Field.{Field}
use Rattle.writing.specs.declared.Refused.TheVariants.{NotWritable, WrongTable}
use Rattle.writing.proofs.Nodes.{nodes-are}
use Rattle.writing.proofs.Outcomes.{outcome_unwritable, outcome-short, outcome-entered}
use Rattle.writer.specs.Inner.Entries.{entered}
use Rattle.writer.specs.Inner.Fields.{fields_to}
use Rattle.writer.proofs.Entering.{entered-chunks}

-- A description of n nodes.
module _ (desc : List ℕ) (n : ℕ) (r : Rooted desc n) where
  module _ (is : examined desc ≡ Ok n) (m : ℕ) (values : List ℕ) (count : ℕ) where
    same-fields : fields_to desc n ≡ fields_of desc
    unfolding fields_to fields_of
    same-fields = sym (ap (map field_of) (nodes-are desc n is))

    -- 14
    pub unwritable_call : some_unwritable (fields_to desc n) ≡ true → outcome m desc values count ≡ refusing m NotWritable
    unwritable_call e = outcome_unwritable m desc values count _ r.means (ap some_unwritable (sym same-fields) ∙ e)

    module _ (writable : some_unwritable (fields_to desc n) ≡ false) where
      -- 15 for the count
      pub short_call : holds values < count → outcome m desc values count ≡ refusing m WrongTable
      short_call h = outcome-short m desc values count _ r.means (ap some_unwritable (sym same-fields) ∙ writable) h

      -- and then by the entries
      pub entered_call : count ≤ holds values → outcome m desc values count ≡ entered m (fields_to desc n) (first_chunks 4 count values)
      entered_call h =
          outcome-entered m desc values count _ r.means (ap some_unwritable (sym same-fields) ∙ writable) h
          ∙ sym (entered-chunks values (fields_of desc) m count)
          ∙ ap (λ (fields : List Field). entered m fields (first_chunks 4 count values)) (sym same-fields)

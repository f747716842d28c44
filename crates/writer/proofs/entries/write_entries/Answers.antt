-- The entries before this one are right, and put.
use Rattle.std.proofs.Common.{◌≡◌, ℕ, true, ◌<◌, List, [], length, get_or, sym, ap, ◌∙◌, subst, append-nil, rules, arith}
use Rattle.std.specs.Prelude.{Result, Err, OnOk}
use Rattle.std.proofs.lemmas.Result.{err_from_is_err_and}
use Rattle.writing.specs.Bits.{in_width, field_bits, width_of}
use Rattle.writing.specs.Outcome.{Outcome, refusing}
use Rattle.writing.specs.declared.Field.{Field}
use Rattle.writing.specs.declared.Field.TheVariants.{Nothing}
use Rattle.writing.specs.declared.Refused.{Refused}
use Rattle.writing.specs.declared.Refused.TheVariants.{WrongTable}
use Rattle.writing.proofs.Widths.{width_same}
use Rattle.writer.specs.Inner.Entries.{wrong_entry, entry_bits, entered}
use Rattle.writer.proofs.Entering.{wrong-node, wrong-number, right-none, bits-are, bits-none, wrong-entered, right-entered, right-more, bits-more}
use Rattle.writer.proofs.entries.write_entries.Goals as goal
use Rattle.writer.proofs.entries.write_entries.Goals.{then-width-ne0+in_ok-bits, else-width-ne0}

-- the answer of a `?`, of an entry that is wrong
refused : (n : ℕ) (fields : List Field) (entries : List (List ℕ)) (i : ℕ) (r : Result ℕ Refused) → i < length entries → r ≡ Err WrongTable
    → wrong_entry fields (get_or entries i []) ≡ true → r ≡ (entered n fields entries).answer
unfolding refusing
refused n fields entries i r here is wrong = is ∙ sym (ap (λ (o : Outcome). o.answer) (wrong-entered fields entries i here n wrong))

given-back : (r : Result ℕ Refused) (b x y : List ℕ) → b ≡ x → OnOk r (x ≡ y) → OnOk r (b ≡ y)
given-back r b x y e p = subst (λ (z : List ℕ). OnOk r (z ≡ y)) (sym e) p

pub returns-in_err-field-clause-answer : goal.returns-in_err-field-clause-answer
returns-in_err-field-clause-answer c =
    let e = c.in_err-field.ensures in
    let is = err_from_is_err_and c.from_residual.result c.from_residual.ensures.1 in
    let none = rw e.ok_part at c.get.ensures.lookup in
    refused _ _ _ c.loop-node.node-index _ c.loop-node-test.true (is.1 ∙ ap Err (is.2 ∙ cc (rw e.ok_part at e.value))) (wrong-node _ _ none.3)

pub returns-in_err-bits-clause-answer : goal.returns-in_err-bits-clause-answer
returns-in_err-bits-clause-answer c =
    let e = c.in_err-bits.ensures in
    let is = err_from_is_err_and c.from_residual-in_err-bits.result c.from_residual-in_err-bits.ensures.1 in
    let at = (rw c.in_ok-field.ensures.ok_part at c.get.ensures.lookup).3 in
    let none = rw e.ok_part at c.bits_of.ensures.wrong in
    refused _ _ _ c.loop-node.node-index _ c.loop-node-test.true (is.1 ∙ ap Err (is.2 ∙ cc (rw e.ok_part at e.value))) (wrong-number _ _ _ at.0 (at.1 Nothing) ∙ sym none)

pub returns-clause-answer : goal.returns-clause-answer
returns-clause-answer c =
    let l = c.loop-node.invariant in
    rw (← right-entered _ _ c.loop-node.node-index _ _ l.long c.loop-node-test.false l.right) (c.finish.ensures.answer _ l.packs)

pub returns-clause-bytes : goal.returns-clause-bytes
returns-clause-bytes c =
    let l = c.loop-node.invariant in
    rw (← right-entered _ _ c.loop-node.node-index _ _ l.long c.loop-node-test.false l.right)
    (given-back c.finish.result _ c.finish.new.self.0 _ (search rules) (c.finish.ensures.bytes _ l.packs))

pub loop-node-preserved : goal.loop-node-preserved
unfolding field_bits
loop-node-preserved c =
    let l = c.loop-node in
    let fields = c.args.fields.now in
    let entries = c.args.entries.now in
    let here = c.loop-node-test.true in
    let at = (rw c.in_ok-field.ensures.ok_part at c.get.ensures.lookup).3 in
    elim c.if-width-ne0.branch [
      | then-width-ne0+in_ok-bits w ↦
          let p = w.put.ensures in
          let found = rw w.in_ok-bits.ensures.ok_part at w.bits_of.ensures in
          let same : entry_bits fields (get_or entries l.node-index []) ≡ in_width (width_of c.in_ok-field.field-0.now) w.in_ok-bits.bits =
          bits-are fields _ _ at.0 (at.1 Nothing) ∙ rw found.value (sym (width_same _ _)) in
          rw w.packer-is (record {
            same_reference = p.same_reference ∙ l.invariant.same_reference;
            long = p.same_length ∙ l.invariant.long;
            near = omega (arith, p.near, l.invariant.near);
            right = right-more fields entries l.node-index here l.invariant.right (wrong-number fields _ _ at.0 (at.1 Nothing) ∙ sym found.wrong);
            packs = rw (bits-more fields entries l.node-index here, same) (p.packs _ l.invariant.packs);
          })
      | else-width-ne0 w ↦
          let none = c.width.ensures.nothing w.if-width-ne0.false in
          let same : entry_bits fields (get_or entries l.node-index []) ≡ [] = bits-none fields _ _ at.0 (at.1 Nothing) none in
          rw w.packer-is (record {
            same_reference = l.invariant.same_reference;
            long = l.invariant.long;
            near = omega (arith, l.invariant.near);
            right = right-more fields entries l.node-index here l.invariant.right (right-none fields _ _ at.0 (at.1 Nothing) none);
            packs = rw (bits-more fields entries l.node-index here, same, append-nil) l.invariant.packs;
          })
    ]

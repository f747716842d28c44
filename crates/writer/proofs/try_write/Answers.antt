-- 1 to 10, then 14, then 15 for the count; then the entries are written.
use Rattle.std.proofs.Common.{◌≤◌, ◌/◌, length, sym, ap, arith}
use Rattle.std.proofs.lemmas.Result.{err_from_is_err_and}
use Rattle.description.proofs.Examining.{means-refused, readable-length}
use Rattle.writing.proofs.Outcomes.{outcome-refused}
use Rattle.writing.specs.Entries.{entry_words, holds}
use Rattle.writing.specs.Outcome.{Outcome, refusing}
use Rattle.writer.proofs.Calls.{unwritable_call, short_call, entered_call}
use Rattle.writer.proofs.Entering.{take-chunks}
use Rattle.writer.proofs.try_write.Goals as goal

pub returns-in_err-n-clause-answer : goal.returns-in_err-n-clause-answer
unfolding refusing
returns-in_err-n-clause-answer c =
    let p = err_from_is_err_and c.from_residual.result c.from_residual.ensures.1 in
    rw (p.1, p.2)
    (sym (ap (λ (o : Outcome). o.answer) (outcome-refused _ c.args.desc.now c.args.values.now c.args.count _ (means-refused _ _ (sym c.in_err-n.ensures.value)))))

pub returns-in_err-look_up-clause-answer : goal.returns-in_err-look_up-clause-answer
unfolding refusing
returns-in_err-look_up-clause-answer c =
    let e = c.in_ok-n.ensures in
    let f = c.in_err-look_up.ensures in
    let p = err_from_is_err_and c.from_residual-in_err-look_up.result c.from_residual-in_err-look_up.ensures.1 in
    rw (p.1, p.2, f.refused)
    (sym (ap (λ (o : Outcome). o.answer) (unwritable_call _ _ e.readable.root (sym e.value) _ c.args.values.now c.args.count (rw (readable-length _ _ _ e.readable) at (sym f.unwritable)))))

pub returns-then-entries-count-clause-answer : goal.returns-then-entries-count-clause-answer
unfolding holds entry_words refusing
returns-then-entries-count-clause-answer c =
    let e = c.in_ok-n.ensures in
    let f = c.in_ok-look_up.ensures in
    sym (ap (λ (o : Outcome). o.answer)
    (short_call _ _ e.readable.root (sym e.value) _ c.args.values.now c.args.count (rw (readable-length _ _ _ e.readable) at (sym f.unwritable))
    (omega (arith, c.if-entries-count.true, c.as_chunks.ensures.front_len))))

pub returns : goal.returns
unfolding holds entry_words
returns c =
    let e = c.in_ok-n.ensures in
    let f = c.in_ok-look_up.ensures in
    let few : c.args.count ≤ length c.args.values.now / 4 = omega (arith, c.if-entries-count.false, c.as_chunks.ensures.front_len) in
    let entries = take-chunks 4 c.args.count _ c.args.values.now few in
    let call = entered_call _ _ e.readable.root (sym e.value) (length c.args.buffer.now) c.args.values.now c.args.count
    (rw (readable-length _ _ _ e.readable) at (sym f.unwritable)) few in
    let looked = rw (readable-length _ _ _ e.readable) at f.looked_up in
    let w = rw (c.as_chunks.ensures.front, entries) at c.write_entries.ensures in
    rw (call, ← looked) (record { answer = w.answer; bytes = w.bytes })

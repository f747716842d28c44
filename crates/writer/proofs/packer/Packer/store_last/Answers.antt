-- What was put exceeds the space, or the bits that are held are padded and the bytes after them cleared.
use Rattle.std.proofs.Common.{◌≡◌, ℕ, ◌+◌, ◌-◌, length, take, drop, length-take, length-drop, refl, sym, ap, ◌∙◌, arith, rules}
use Rattle.std.specs.Prelude.{Ok}
use Rattle.rules.specs.Outcome.{most_input}
use Rattle.writing.specs.Bits.{bytes_for}
use Rattle.writing.specs.Outcome.{Outcome, refusing}
use Rattle.writing.proofs.Outcomes.{writing-fits, writing_over}
use Rattle.writer.proofs.Packing.{packs_padded, last}
use Rattle.writer.proofs.packer.Packer.store_last.Goals as goal

pub returns-then-min-end-clause-answer : goal.returns-then-min-end-clause-answer
unfolding refusing bytes_for most_input
returns-then-min-end-clause-answer c = λ row p.
    sym (ap (λ (o : Outcome). o.answer) (writing_over _ row (omega (arith, p.long))))

pub returns-clause-answer : goal.returns-clause-answer
unfolding bytes_for most_input
returns-clause-answer c = λ row p.
    ap Ok (sym p.long) ∙ sym (ap (λ (o : Outcome). o.answer) (writing-fits _ row (omega (arith, p.long))))

pub returns-clause-bytes : goal.returns-clause-bytes
unfolding bytes_for most_input
returns-clause-bytes c = λ row p.
    let a = c.args in
    let k = c.div_ceil-held_bytes.result in
    let end : a.at + k - a.at ≡ k = omega arith in
    let long : length (take k (drop a.at a.buffer.now)) ≡ k = omega (arith, length-take {A = ℕ}, length-drop {A = ℕ}) in
    packs_padded row a.at _ _ a.buffer.now _ _ k _ (omega arith) (omega arith) p
    (rw (c.store.ensures, end, long, last a.acc a.free k c.requires.clear c.requires.few.1 (omega arith) (omega arith)) refl) (omega arith) (search rules) c.fill.ensures.len
    ∙ sym (ap (λ (o : Outcome). o.buffer) (writing-fits _ row (omega (arith, p.long))))

-- One sum and one comparison tell whether a number is one of its width.
use Rattle.std.proofs.Common.{arith}
use Rattle.writer.proofs.Signs.{field-wrong, field-right, bits-field}
use Rattle.writer.proofs.stored.Stored.bits_of.Goals as goal

pub returns-then-self-moved-clause-wrong : goal.returns-then-self-moved-clause-wrong
returns-then-self-moved-clause-wrong c =
    field-wrong _ _ _ c.args.number (omega arith) _ c.requires (rw c.self.view_is at c.self.invariant) c.if-self-moved.true

pub returns : goal.returns
returns c =
    let l = rw c.self.view_is at c.self.invariant in
    record {
      wrong = field-right _ _ _ c.args.number (omega arith) _ c.requires l c.if-self-moved.false;
      value = bits-field _ _ _ c.args.number (omega arith) _ c.requires l c.if-self-moved.false;
    }

-- One letter more.
use Rattle.std.proofs.Common.{arith}
use Rattle.std.proofs.lemmas.List.{take_more}
use Rattle.text.proofs.Putting.{puts_both}
use Rattle.text.proofs.lines.Text.word.Goals as goal

pub loop-b-preserved : goal.loop-b-preserved
loop-b-preserved c = puts_both c.loop-b.invariant c.byte.ensures (take_more _ _ 0 c.loop-b-test.true) (omega arith)

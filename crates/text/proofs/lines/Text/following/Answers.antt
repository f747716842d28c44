-- One number more, and the line feed after all of them.
use Rattle.std.proofs.Common.{refl, arith}
use Rattle.text.proofs.Putting.{puts_both, spaced-more, spaced_all}
use Rattle.text.proofs.lines.Text.following.Goals as goal

pub loop-n-preserved : goal.loop-n-preserved
loop-n-preserved c =
    puts_both c.loop-n.invariant (puts_both {most = 11} c.byte.ensures c.number.ensures refl (omega arith)) (spaced-more _ _ c.loop-n-test.true) (omega arith)

pub returns : goal.returns
returns c = puts_both c.loop-n.invariant c.byte-2.ensures (spaced_all _ _ c.loop-n-test.false) (omega arith)

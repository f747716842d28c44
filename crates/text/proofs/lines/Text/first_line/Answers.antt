use Rattle.std.proofs.Common.{refl, arith}
use Rattle.text.proofs.Putting.{puts_both}
use Rattle.text.proofs.lines.Text.first_line.Goals as goal

pub returns : goal.returns
returns c = puts_both c.word.ensures c.following.ensures refl (omega (arith, c.requires))

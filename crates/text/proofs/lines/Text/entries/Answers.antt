-- One line more.
use Rattle.std.proofs.Common.{refl, arith, add-one}
use Rattle.text.specs.Listing.{entry_lines}
use Rattle.text.proofs.Putting.{puts_both}
use Rattle.text.proofs.lines.Text.entries.Goals as goal

pub loop-i-preserved : goal.loop-i-preserved
unfolding entry_lines
loop-i-preserved c = rw add-one (puts_both c.loop-i.invariant c.entry.ensures refl (omega arith))

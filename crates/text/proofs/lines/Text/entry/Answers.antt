-- Each word of the line is the table's.
use Rattle.std.proofs.Common.{arith, rules}
use Rattle.text.specs.Listing.{entry_line}
use Rattle.text.proofs.Putting.{puts_both}
use Rattle.text.proofs.lines.Text.entry.Goals as goal

pub returns : goal.returns
unfolding entry_line
returns c = puts_both c.number.ensures c.following.ensures (search rules) (omega arith)

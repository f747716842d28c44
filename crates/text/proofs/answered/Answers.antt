-- The first line, and then the lines of the entries.
use Rattle.std.proofs.Common.{refl, arith}
use Rattle.reader.specs.Answers.{said, stated_by}
use Rattle.rules.specs.Outcome.{stated}
use Rattle.text.specs.Listing.{printed}
use Rattle.text.proofs.Putting.{puts_both}
use Rattle.text.proofs.answered.Goals as goal

pub returns-in-Ok : goal.returns-in-Ok
unfolding said printed stated_by stated
returns-in-Ok c = rw c.in-Ok.is (puts_both c.ok.ensures c.entries.ensures refl (omega arith))

use Rattle.std.proofs.Common.{◌*◌}
use Rattle.text.specs.Listing.{entry_lines}
use Rattle.text.specs.Inner.Puts.{Puts}
use Rattle.text.proofs.lines.Text.entries.Given as goal

abbrev pub invariant-loop-i : goal.invariant-loop-i
invariant-loop-i l = Puts l.initial.self l.self (entry_lines l.tables.values.now l.tables.descriptors.now l.i) (88 * l.i)

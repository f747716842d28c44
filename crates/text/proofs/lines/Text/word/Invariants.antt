use Rattle.std.proofs.Common.{take}
use Rattle.text.specs.Inner.Puts.{Puts}
use Rattle.text.proofs.lines.Text.word.Given as goal

abbrev pub invariant-loop-b : goal.invariant-loop-b
invariant-loop-b l = Puts l.initial.self l.self (take l.b-index l.letters) l.b-index

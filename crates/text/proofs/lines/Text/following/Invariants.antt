use Rattle.std.proofs.Common.{◌*◌, take}
use Rattle.text.specs.Lines.{spaced}
use Rattle.std.specs.List.{flat_map}
use Rattle.text.specs.Inner.Puts.{Puts}
use Rattle.text.proofs.lines.Text.following.Given as goal

abbrev pub invariant-loop-n : goal.invariant-loop-n
invariant-loop-n l = Puts l.initial.self l.self (flat_map spaced (take l.n-index l.numbers)) (11 * l.n-index)

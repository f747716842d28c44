use mathlib.Core.Path.{◌≡◌}
use Rattle.bits.specs.Bits.{number}
use Rattle.bits.proofs.Run.number.Given as goal

abbrev pub invariant-loop-i : goal.invariant-loop-i
invariant-loop-i l = l.n ≡ number l.self.input.now l.self.o l.i

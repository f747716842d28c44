use Rattle.std.proofs.Common.{◌≡◌, take}
use Rattle.std.specs.Int.{bytes_high_first}
use Rattle.writer.proofs.packer.store.Given as goal

abbrev pub invariant-loop-i : goal.invariant-loop-i
invariant-loop-i l = take l.i l.bytes ≡ take l.i (bytes_high_first l.n l.word)

use Prim.Native.Nat.{◌-◌}
use Rattle.description.proofs.Parsing.{Going}
use Rattle.description.proofs.nodes.parse.Given as goal

abbrev pub invariant-loop-at : goal.invariant-loop-at
invariant-loop-at l = Going l.desc l.initial.starts l.starts l.named l.at l.n

abbrev pub decreases-loop-at : goal.decreases-loop-at
decreases-loop-at l = 64 - l.n

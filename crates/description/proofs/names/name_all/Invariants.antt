use Rattle.std.proofs.Common.{◌≡◌, false, drop}
use Rattle.description.specs.Check.{some_not_smaller}
use Rattle.description.specs.Inner.Names.{some_marked, marked}
use Rattle.description.specs.Limits.{most_nodes}
use Rattle.description.proofs.names.name_all.Given as goal

-- what is left, with the flags as they are, answers what the whole does
abbrev pub invariant-loop-child : goal.invariant-loop-child
invariant-loop-child l = record {
  tested : some_marked l.named (drop l.child-index l.children) ≡ some_marked l.initial.named l.children;
  marks : marked l.named (drop l.child-index l.children) ≡ marked l.initial.named l.children;
  below : some_not_smaller most_nodes (drop l.child-index l.children) ≡ false;
}

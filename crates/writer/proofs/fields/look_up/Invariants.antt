use Rattle.std.proofs.Common.{◌≡◌, false, take}
use Rattle.writing.specs.Fields.{some_unwritable}
use Rattle.writer.specs.Inner.Fields.{fields_to}
use Rattle.writer.proofs.fields.look_up.Given as goal

abbrev pub invariant-loop-node : goal.invariant-loop-node
invariant-loop-node l = record {
  writable : some_unwritable (fields_to l.nodes.desc.now l.node) ≡ false;
  looked_up : take l.node l.fields ≡ fields_to l.nodes.desc.now l.node;
}

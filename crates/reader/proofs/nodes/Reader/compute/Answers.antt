-- The fields are those of a compute's body, and its operands name enclosing binds. Each operand is a goal of its own type: a law of both would be longer.
use Rattle.std.proofs.Common.{arith, lit≤}
use Rattle.description.specs.Kinds.{kinds, row_of}
use Rattle.description.proofs.Visiting.{compute-needs, compute_width}
use Rattle.reader.proofs.nodes.Reader.compute.Goals as goal

pub field_of-w-requires-clause-inside : goal.field_of-w-requires-clause-inside
unfolding row_of kinds
field_of-w-requires-clause-inside c = rw c.requires.1 (lit≤ tt)

pub value_of-a-requires : goal.value_of-a-requires
unfolding row_of kinds
value_of-a-requires c = record {
  operand = (c.requires.0, rw c.requires.1 (lit≤ tt));
  free_in_bounds = omega (arith, c.requires.2, compute-needs _ _ _ (c.args.self.now.nodes.known _ c.requires.0) c.requires.1);
}

pub value_of-b-requires : goal.value_of-b-requires
unfolding row_of kinds
value_of-b-requires c = record {
  operand = (c.requires.0, rw c.requires.1 (lit≤ tt));
  free_in_bounds = omega (arith, c.requires.2, compute-needs _ _ _ (c.args.self.now.nodes.known _ c.requires.0) c.requires.1);
}

pub computed-requires : goal.computed-requires
computed-requires c =
    rw c.field_of-w.ensures (compute_width _ _ _ (c.args.self.now.nodes.known _ c.requires.0) c.requires.1)

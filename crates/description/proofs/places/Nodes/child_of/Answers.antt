-- A child is a byte of the body, and smaller than its node.
use Rattle.description.proofs.Standing.{child-field, child-below}
use Rattle.description.proofs.places.Nodes.child_of.Goals as goal

pub field_of-requires-clause-inside : goal.field_of-requires-clause-inside
field_of-requires-clause-inside c =
    child-field _ _ _ (c.args.self.now.known _ c.requires.node) _ c.requires.inside

pub returns-clause-smaller : goal.returns-clause-smaller
returns-clause-smaller c =
    rw c.field_of.ensures (child-below _ _ _ (c.args.self.now.known _ c.requires.node) _ c.requires.inside)

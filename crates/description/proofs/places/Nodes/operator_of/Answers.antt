-- The operator of a node that stands is listed.
use Rattle.description.proofs.Bodies.{no-error}
use Rattle.description.proofs.Visiting.{operator-listed}
use Rattle.description.proofs.places.Nodes.operator_of.Goals as goal

pub unwrap-requires : goal.unwrap-requires
unwrap-requires c =
    let listed = operator-listed _ _ _ (c.args.self.now.known _ c.requires.node) c.requires.kind in
    no-error _ _ _ c.try_from.ensures (λ _ none. cc (c.field_of.ensures, listed, none))

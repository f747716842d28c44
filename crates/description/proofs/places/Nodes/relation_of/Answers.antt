-- The relation of a node that stands is listed.
use Rattle.description.proofs.Bodies.{no-error}
use Rattle.description.proofs.Visiting.{relation-listed}
use Rattle.description.proofs.places.Nodes.relation_of.Goals as goal

pub unwrap-requires : goal.unwrap-requires
unwrap-requires c =
    let listed = relation-listed _ _ _ (c.args.self.now.known _ c.requires.node) c.requires.kind in
    no-error _ _ _ c.try_from.ensures (λ _ none. cc (c.field_of.ensures, listed, none))

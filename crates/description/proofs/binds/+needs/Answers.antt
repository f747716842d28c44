use Rattle.description.proofs.Standing.{needs-here}
use Rattle.description.proofs.Walking.{walk-all, walk-next, walk_none}
use Rattle.description.proofs.binds.+needs.Goals as goal

pub loop-j-init : goal.loop-j-init
loop-j-init t c =
    walk-all _ _ _ _ _ _ _ _ c.kind_of-kind.ensures c.children-j-end.ensures
    (rw (c.own_needs-most.ensures, c.kind_of-kind.ensures) (needs-here _ _ _ (c.args.nodes.now.known _ c.requires)))

pub loop-j-preserved : goal.loop-j-preserved
loop-j-preserved t c =
    walk-next _ _ _ _ _ _ _ _ _ c.loop-j.invariant _ c.loop-j-test.true (cc)

pub returns : goal.returns
returns t c = walk_none _ _ _ _ _ _ _ _ _ c.loop-j.invariant c.loop-j-test.false

-- The walk over the children keeps the most that is needed; a child is smaller than its node, so the number of the node falls.
use Prim.Native.Nat.{◌-◌}
use Rattle.description.specs.Binds.{needs}
use Rattle.description.specs.Bodies.{byte_of}
use Rattle.description.specs.Places.{tree_of}
use Rattle.description.proofs.Walking.{Left}
use Rattle.description.proofs.binds.+needs.Given as goal

abbrev pub decreases-needs : goal.decreases-needs
decreases-needs l = l.node

abbrev pub invariant-loop-j : goal.invariant-loop-j
invariant-loop-j l =
    let d = l.nodes.desc.now in
    Left d l.node ◌-◌ (λ c. needs (tree_of d c)) (needs (tree_of d l.node)) (byte_of l.kind) l.j-end l.most l.j

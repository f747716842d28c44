-- `starts` has where the node begins, and the byte stands inside its body.
use mathlib.Core.Path.{ap}
use Prim.Native.Nat.{ℕ, ◌+◌, ◌<◌}
use native.Mathlib.Omega.{arith}
use lib.ListN.{length, get_or}
use Rattle.description.specs.Kinds.{byte}
use Rattle.description.specs.Limits.{most_bytes}
use Rattle.description.specs.Places.{field_of}
use Rattle.description.proofs.Standing.{body_inside}
use Rattle.description.proofs.places.Nodes.field_of.Goals as goal
use Rattle.description.proofs.places.Nodes.field_of.Goals.{Start}

-- the byte is inside the description
module _ (c : Start) where
  inside : get_or c.args.self.now.starts.now c.args.node 0 + 1 + c.args.j < length c.args.self.now.desc.now
  inside =
      let p = c.args.self.now.known _ c.requires.node in
      omega (arith, p.begins, body_inside _ _ _ p)

pub overflow_add-result-2 : goal.overflow_add-result-2
unfolding most_bytes
overflow_add-result-2 c = omega (arith, inside (goal.at.overflow_add-result-2 c).Start, c.args.self.now.short)

pub bounds-self-self : goal.bounds-self-self
bounds-self-self c = inside (goal.at.bounds-self-self c).Start

pub returns : goal.returns
unfolding field_of byte
returns c =
    let a = c.args in
    ap (λ (p : ℕ). byte a.self.now.desc.now (p + 1 + a.j)) (a.self.now.known _ c.requires.node).begins

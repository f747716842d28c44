-- `starts` has where the node begins, that is inside the description, and a byte that says a kind.
use mathlib.Core.Path.{ap, subst, ◌∙◌}
use Prim.Native.Nat.{ℕ, ◌≤◌}
use native.Mathlib.Omega.{arith}
use lib.ListN.{length}
use Rattle.std.proofs.lemmas.Result.{MatchResult-at_ok}
use Rattle.description.specs.Kinds.{byte, kinds}
use Rattle.description.specs.Places.{kind_of, Known}
use Rattle.description.proofs.Bodies.{no-error}
use Rattle.description.proofs.Standing.{kind_below}
use Rattle.description.proofs.places.Nodes.kind_of.Goals as goal
use Rattle.description.proofs.places.Nodes.kind_of.Goals.{Start}

known : (c : Start) → Known c.args.self.now.desc.now c.args.self.now.starts.now c.args.node
known c = c.args.self.now.known c.args.node c.requires

pub unwrap-requires : goal.unwrap-requires
unfolding kind_of byte
unwrap-requires c =
    let a = c.args in
    let p = known (goal.at.unwrap-requires c).Start in
    no-error _ _ _ c.try_from.ensures
    (λ _ h.
    let past : length kinds ≤ kind_of a.self.now.desc.now a.node = subst (λ (k : ℕ). length kinds ≤ byte a.self.now.desc.now k) p.begins h in
    omega (arith, kind_below _ _ _ p))

pub returns : goal.returns
unfolding kind_of byte
returns c = MatchResult-at_ok _ _ _ c.unwrap.ensures c.try_from.ensures ∙ ap (byte c.args.self.now.desc.now) (known (goal.at.returns c).Start).begins

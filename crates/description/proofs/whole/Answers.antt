-- The tests of all nodes together, in their order.
use Rattle.std.proofs.Common.{◌-◌, ◌≤◌, sym, arith, length}
use Rattle.description.specs.Limits.{most_nodes}
use Rattle.description.proofs.Judging.{judge_9, judge_10, judge_clear}
use Rattle.description.proofs.whole.Goals as goal
use Rattle.description.proofs.whole.Goals.{Start}

-- there are no more nodes than a description may have, since the last is known
few : (c : Start) → length c.args.nodes.now.starts.now ≤ most_nodes
few c =
    let n = length c.args.nodes.now.starts.now in
    omega (arith, c.requires.some_node, (c.args.nodes.now.known (n - 1) (omega (arith, c.requires.some_node))).few)

pub returns-in-Some : goal.returns-in-Some
returns-in-Some c =
    let r = c.requires in
    sym (judge_9 _ _ _ (few (goal.at.returns-in-Some c).Start) r.some_node r.marks _ (sym c.in-Some.ensures))

pub returns-then-needs-gt0 : goal.returns-then-needs-gt0
returns-then-needs-gt0 c =
    let r = c.requires in
    sym (judge_10 _ _ _ (few (goal.at.returns-then-needs-gt0 c).Start) r.some_node r.marks (sym c.in_default.ensures) (omega arith))

pub returns : goal.returns
returns c =
    let r = c.requires in
    sym (judge_clear _ _ _ (few (goal.at.returns c).Start) r.some_node r.marks (sym c.in_default.ensures) (omega arith))

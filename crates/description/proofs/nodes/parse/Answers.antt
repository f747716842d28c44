-- Each turn is a step of `nodes_from`: what is left of it, done from here, gives the whole.
use Rattle.std.proofs.Common.{ap, sym, ◌∙◌, ◌≡◌, ◌<◌, Err, length, take, arith, rules}
use Rattle.std.proofs.lemmas.Result.{err_from_is_err_and}
use Rattle.description.specs.Limits.{most_nodes}
use Rattle.description.specs.Places.{nodes_to}
use Rattle.description.proofs.Parsing.{answer-stopped, answer-parsed, going_start, going_found, going_full, going_stop, going_next, step_stop, step_next}
use Rattle.description.proofs.Numbered.{nodes-length}
use Rattle.description.proofs.Refusing.{gives-node}
use Rattle.description.proofs.Standing.{found-length, found-known}
use Rattle.description.specs.declared.Refusal.TheVariants.{TooManyNodes}
use Rattle.description.proofs.nodes.parse.Goals as goal
use Rattle.description.proofs.nodes.parse.Goals.{Else-n-eq-MOST_NODES}

pub loop-at-init : goal.loop-at-init
unfolding most_nodes
loop-at-init c = going_start _ _ _ (search rules) c.requires.1

pub returns-then-n-eq-MOST_NODES : goal.returns-then-n-eq-MOST_NODES
unfolding most_nodes
returns-then-n-eq-MOST_NODES c =
    let g = c.loop-at.invariant in
    let all = answer-stopped _ _ _ _ _ _ g TooManyNodes (going_full _ _ _ _ _ _ g c.loop-at-test.true c.if-n-eq-MOST_NODES.true) (sym c.if-n-eq-MOST_NODES.true) in
    record { value = all.0; starts_after = all.1; whole = search rules }

-- the loop's head, and a node less than the most
module _ (c : Else-n-eq-MOST_NODES) where
  fewer : c.loop-at.n < most_nodes
  unfolding most_nodes
  fewer = omega (arith, c.loop-at.invariant.few, c.if-n-eq-MOST_NODES.false)

  -- the nodes before it are the front of `starts`
  front : length (take c.loop-at.n c.loop-at.starts) ≡ c.loop-at.n
  front = found-length _ _ _ c.loop-at.invariant.few (going_found _ _ _ _ _ _ c.loop-at.invariant)

pub invariant_of-before : goal.invariant_of-before
invariant_of-before c = record {
  short = c.requires.0;
  known = found-known _ _ _ c.loop-at.invariant.few (going_found _ _ _ _ _ _ c.loop-at.invariant);
}

pub returns-in_err-end : goal.returns-in_err-end
returns-in_err-end c =
    let l = c.loop-at in
    let g = l.invariant in
    let d = c.args.desc.now in
    let p = err_from_is_err_and c.from_residual.result c.from_residual.ensures.1 in
    let before = (goal.at.returns-in_err-end c).Else-n-eq-MOST_NODES in
    let found = rw (front before) at (step_stop _ _ _ (sym c.in_err-end.ensures.value)) in
    let all = answer-stopped _ _ _ _ _ _ g _ (going_stop _ _ _ _ _ _ g c.loop-at-test.true (fewer before) _ found)
    (gives-node d (nodes_to d l.n) l.at _ found ∙ nodes-length d l.n) in
    record { value = p.1 ∙ ap Err p.2 ∙ all.0; starts_after = all.1; whole = rw (p.1) tt }

pub loop-at-preserved : goal.loop-at-preserved
loop-at-preserved c =
    let g = c.loop-at.invariant in
    let before = (goal.at.loop-at-preserved c).Else-n-eq-MOST_NODES in
    let on = step_next _ _ _ (sym c.in_ok-end.ensures.value) in
    rw on.1 (going_next _ _ _ _ _ _ g c.loop-at-test.true (fewer before) (rw (front before) at on.0) _ (rw (front before) at (c.node.ensures.marked on.0)))

pub returns : goal.returns
returns c =
    let all = answer-parsed _ _ _ _ _ _ c.loop-at.invariant c.loop-at-test.false in
    record { value = all.0; starts_after = all.1.0; whole = all.1.1 }

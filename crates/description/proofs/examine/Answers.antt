-- The tests of the length, the parse, and the tests of all nodes together.
use Rattle.std.proofs.Common.{◌≡◌, ℕ, length, take, sym, ◌∙◌, ap, Err, arith, false, ◌==◌}
use Rattle.std.proofs.lemmas.Result.{err_from_is_err_and}
use Rattle.std.proofs.lemmas.Bool.{eqb-false}
use Rattle.description.specs.Limits.{most_bytes, most_nodes}
use Rattle.description.proofs.Examining.{counted-stopped, examined_empty, examined_long, examined-stopped, examined-judged, starts_empty, starts_long, starts_short, some-node, readable}
use Rattle.description.proofs.Marking.{mark_none}
use Rattle.description.proofs.Standing.{found-length, found-known}
use Rattle.description.proofs.examine.Goals as goal
use Rattle.description.proofs.examine.Goals.{In_ok-n}

pub returns-then-is_empty : goal.returns-then-is_empty
unfolding most_bytes
returns-then-is_empty c = record {
  value = grind (arith, examined_empty, examined_long);
  starts_after = grind (arith, starts_empty, starts_long);
  readable = tt;
}

pub parse-requires : goal.parse-requires
unfolding most_bytes most_nodes
parse-requires c = (omega arith, mark_none)

some_byte : (n : ℕ) → false ≡ (n == 0) → n ≡ 0 → ⊥
some_byte n e = eqb-false n 0 (sym e)

-- the nodes that were parsed are the front of `starts`
front : (c : In_ok-n) → length (take c.in_ok-n.n c.parse.new.starts) ≡ c.in_ok-n.n
front c = let w = c.in_ok-n.ensures.whole in found-length _ _ _ w.few w.found

pub invariant_of-nodes : goal.invariant_of-nodes
unfolding most_bytes
invariant_of-nodes c =
    let w = c.in_ok-n.ensures.whole in
    record { short = c.if-desc-gt-MOST_BYTES.false; known = found-known _ _ _ w.few w.found }

pub whole-requires : goal.whole-requires
unfolding most_bytes
whole-requires c =
    let w = c.in_ok-n.ensures.whole in
    let same = front (goal.at.whole-requires c).In_ok-n in
    record { some_node = rw same (some-node _ (some_byte _ c.if-is_empty.ensures) c.if-desc-gt-MOST_BYTES.false _ _ _ w); marks = rw same w.marks }

pub returns-in_err-n : goal.returns-in_err-n
unfolding most_bytes
returns-in_err-n c =
    let short = c.if-desc-gt-MOST_BYTES.false in
    let p = err_from_is_err_and c.from_residual.result c.from_residual.ensures.1 in
    let said = examined-stopped _ (some_byte _ c.if-is_empty.ensures) short _ (counted-stopped _ _ (sym c.in_err-n.ensures.value)) in
    record {
      value = p.1 ∙ ap Err p.2 ∙ sym said;
      starts_after = c.in_err-n.ensures.starts_after ∙ sym (starts_short _ _ short);
      readable = rw (p.1) tt;
    }

pub returns : goal.returns
unfolding most_bytes
returns c =
    let some = some_byte _ c.if-is_empty.ensures in
    let short = c.if-desc-gt-MOST_BYTES.false in
    let w = c.in_ok-n.ensures.whole in
    let judged = rw (front (goal.at.returns c).In_ok-n) at c.whole.ensures in
    record {
      value = judged ∙ examined-judged _ some short _ w.nodes-are;
      starts_after = c.in_ok-n.ensures.starts_after ∙ sym (starts_short _ _ short);
      readable = readable _ some short _ _ _ w _ judged;
    }

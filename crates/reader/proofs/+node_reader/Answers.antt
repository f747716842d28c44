-- The functions that read nodes, each proved where the others are met by smaller measures.
use Rattle.std.proofs.Common.{◌+◌, ◌≤◌, [], sym, true≢false, eq-eqb, ap, ap₂, arith, rules, eqb, lit≤, refl, to_z-of_z, w64, ◌∙◌}
use Rattle.description.specs.Bodies.{relation_meant, byte_of, child_count, child_counts}
use Rattle.description.specs.Inner.Children.{binding}
use Rattle.reader.specs.Inner.Visits.{child, read_at}
use Rattle.reader.proofs.Adding.{same-still, adds_none, parted, tried_gone, under, visited}
use Rattle.reader.proofs.Below.{below_here, below_kind, ends, visit-at}
use Rattle.reader.proofs.Rules.{absorb-reads, taken_made}
use Rattle.bits.specs.Bits.{total}
use Rattle.reader.specs.declared.readings.Reading.{Reading}
use Rattle.reader.specs.declared.readings.Rounds.{Rounds}
use Rattle.reader.proofs.Done.{done-count, done-total, done_else}
use Rattle.reader.proofs.Ends.{either_first, either_second, pair_end, sequence-end, where_end, where_node}
use borrow.Author.Rules.{sfits_of}
use Rattle.reader.proofs.Sides.{first_below, lendable, second-inside, second_below}
use Rattle.reader.proofs.ByKind.{own-node}
use Rattle.reader.proofs.OneRound.{round-first, round-next}
use Rattle.reader.proofs.Rounds.{grown-one}
use Rattle.reader.proofs.Going.{further, going_done, going_few, going_first, going_on, going_still}
use Rattle.reader.proofs.Trying.{scan-end, scan_failed, trying_on}
use Rattle.description.proofs.Visiting.{sequence-needs, where_needs}
use Rattle.rules.specs.Numbers.{holds}
use Rattle.description.specs.Kinds.{row_of, kinds}
use Rattle.reader.proofs.+node_reader.Goals.{sequences::Sequence::round-then-r-eq0, sequences::Sequence::round-else-r-eq0, sequences::Sequence::done-then-count-self, sequences::Sequence::done-else-count-self, nodes::Reader::scan-else-loop-p-test, nodes::Reader::scan-then-loop-p-test+else-a-eq0+else-p-total}
use Rattle.reader.proofs.+node_reader.Goals as goal

-- "absorb": the child is looked at, and the node's entry is made from what it gave.
pub nodes::Reader::absorb-look-a-requires : goal.nodes::Reader::absorb-look-a-requires
unfolding child_count child_counts binding
nodes::Reader::absorb-look-a-requires t c =
    (omega (arith, c.decreases), below_here _ _ _ _ c.requires.0 11 c.requires.1 0 (lit≤ tt) refl)

pub nodes::Reader::absorb-returns-clause-reads : goal.nodes::Reader::absorb-returns-clause-reads
nodes::Reader::absorb-returns-clause-reads t c =
    let a = c.look-a.ensures in
    let given = read_at c.args.self.now _ (child c.args.self.now c.args.at 0) c.args.o in
    visited _ _ _ _ _ _ _ _ _ _ _
    (absorb-reads c.args.self.now _ _ _ c.requires.0.some-node c.requires.1 ∙ taken_made _ _ _ given _ _ _ a.is c.taken.ensures)
    refl a.kept (under _ _ _ (adds_none 1 _)) c.enter.ensures.entered

-- When a sequence is done: by its count, at the end of the input, or by its terminator.
pub sequences::Sequence::done-returns-then-p-self : goal.sequences::Sequence::done-returns-then-p-self
unfolding total
sequences::Sequence::done-returns-then-p-self t c =
    let early = c.if-p-self.true in (
      early
          ∙ elim c.if-count-self.branch [
            | sequences::Sequence::done-then-count-self w ↦ done-count _ _ _ _ _ c.ranges.count.fits (search rules) w.if-count-self.true
            | sequences::Sequence::done-else-count-self w ↦ done-total c.args.self.now.reader.now.input.now _ _ _ _ (sym w.value-is ∙ early)
          ],
      refl,
    )

pub sequences::Sequence::done-look-requires : goal.sequences::Sequence::done-look-requires
unfolding child_count child_counts binding
sequences::Sequence::done-look-requires t c =
    (omega (arith, c.decreases), below_here _ _ _ _ c.requires 9 c.args.self.now.is_sequence 2 (lit≤ tt) refl)

pub sequences::Sequence::done-returns-else-p-self : goal.sequences::Sequence::done-returns-else-p-self
unfolding total
sequences::Sequence::done-returns-else-p-self t c =
    let a = c.look.ensures in
    let late = c.if-p-self.false in (
      ap (λ (r : Reading). eqb r.errors 0) a.is
          ∙ elim c.if-count-self.branch [
            | sequences::Sequence::done-then-count-self w ↦ absurd (true≢false (sym (eq-eqb _ _ w.if-count-self.true) ∙ sym w.value-is ∙ late))
            | sequences::Sequence::done-else-count-self w ↦ done_else c.args.self.now.reader.now.input.now _ _ _ _ c.ranges.count.fits (search rules) w.if-count-self.false (sym w.value-is ∙ late)
          ],
      a.kept,
    )

-- "either": the first child is tried; if it has errors, nothing of it is left and the second is read.
pub nodes::Reader::either-tried-a-requires : goal.nodes::Reader::either-tried-a-requires
unfolding child_count child_counts binding
nodes::Reader::either-tried-a-requires t c =
    (omega (arith, c.decreases), below_here _ _ _ _ c.requires.0 6 c.requires.1 0 (lit≤ tt) refl)

pub nodes::Reader::either-returns-then-a-eq0-clause-reads : goal.nodes::Reader::either-returns-then-a-eq0-clause-reads
nodes::Reader::either-returns-then-a-eq0-clause-reads t c =
    either_first _ _ _ _ c.requires.0.some-node _ _ _ _ _ c.requires.1 _ _ _ c.tried-a.ensures.reads c.if-a-eq0.true c.taken-own.ensures c.together.ensures
    c.enter.ensures.entered

pub nodes::Reader::either-part-b-requires : goal.nodes::Reader::either-part-b-requires
unfolding child_count child_counts binding
nodes::Reader::either-part-b-requires t c =
    let v = c.requires.0 in
    (omega (arith, c.decreases), below_kind _ _ _ _ v 6 c.requires.1 _ c.tried-a.auto.lent _ v.inside 1 (lit≤ tt) refl)

pub nodes::Reader::either-returns-clause-reads : goal.nodes::Reader::either-returns-clause-reads
nodes::Reader::either-returns-clause-reads t c =
    either_second _ _ _ _ c.requires.0.some-node _ _ _ _ _ c.requires.1 _ _ _ c.tried-a.ensures.reads _ _ _ c.if-a-eq0.false c.part-b.ensures.reads c.taken-own-2.ensures
    c.together-2.ensures c.enter-2.ensures.entered

-- "then, bind" and "both": the second is read after the first, with what is then lent.
pub nodes::Reader::pair-part-a-requires : goal.nodes::Reader::pair-part-a-requires
nodes::Reader::pair-part-a-requires t c =
    let v = c.requires.0 in
    (omega (arith, c.decreases), first_below _ _ _ _ v _ c.requires.1 c.requires.2)

pub nodes::Reader::pair-lend-free-requires : goal.nodes::Reader::pair-lend-free-requires
nodes::Reader::pair-lend-free-requires t c =
    let v = c.requires.0 in
    lendable _ _ _ _ v _ c.requires.1 c.requires.2 c.part-a.new.lent c.part-a.auto.lent

pub nodes::Reader::pair-part-b-requires : goal.nodes::Reader::pair-part-b-requires
nodes::Reader::pair-part-b-requires t c =
    let v = c.requires.0 in
    let first = first_below _ _ _ _ v _ c.requires.1 c.requires.2 in
    let inside = second-inside (total c.args.self.now.input.now) c.args.o c.part-a.result.end (byte_of c.args.kind) c.requires.2 v.inside (rw c.part-a.ensures.reads.is (ends _ _ _ _ first.visit).to) in (
      omega (arith, c.decreases),
      second_below _ _ _ _ v _ c.requires.1 c.requires.2 _ (c.lend-free.auto.lent ∙ c.part-a.auto.lent) _ (rw c.second_at-begin.ensures inside) _ c.lend-free.ensures.left,
    )

pub nodes::Reader::pair-returns-clause-reads : goal.nodes::Reader::pair-returns-clause-reads
nodes::Reader::pair-returns-clause-reads t c =
    let v = c.requires.0 in
    pair_end _ _ _ _ v.some-node _ _ _ _ _ _ c.requires.1 c.requires.2 v.inside _ _ _ _ _ _ _ _ _ _ c.part-a.ensures.reads c.lend-free.ensures c.second_at-begin.ensures
    c.together-k.ensures c.part-b.ensures.reads c.two_sides-own.ensures c.together.ensures c.enter.ensures.entered

-- A node that is read into both tables from an entry on.
pub nodes::Reader::read_from-returns : goal.nodes::Reader::read_from-returns
nodes::Reader::read_from-returns t c =
    parted _ _ _ _ c.first_word-v.ensures c.first_word-d.ensures _ _ _ _ _ _ c.read_into.ensures

-- A node, by its kind: each rule's function says what the rule gives.
pub nodes::Reader::read_node-enter-requires : goal.nodes::Reader::read_node-enter-requires
nodes::Reader::read_node-enter-requires t c =
    rw (own-node _ _ _ _ c.requires.some-node _ _ c.leaf-own.ensures) (c.args.self.now.nodes.known _ c.requires.some-node).few

pub nodes::Reader::read_node-returns-then-kind-lt4-clause-reads : goal.nodes::Reader::read_node-returns-then-kind-lt4-clause-reads
nodes::Reader::read_node-returns-then-kind-lt4-clause-reads t c =
    visited _ _ [] _ _ _ _ _ _ _ _ c.leaf-own.ensures refl refl (under _ _ _ (adds_none 1 _)) c.enter.ensures.entered

-- One round: an element, and before it a separator if an element was read.
pub sequences::Sequence::round-part-s-requires : goal.sequences::Sequence::round-part-s-requires
unfolding child_count child_counts binding
sequences::Sequence::round-part-s-requires t c =
    (omega (arith, c.decreases), below_here _ _ _ _ c.requires.0 9 c.args.self.now.is_sequence 1 (lit≤ tt) refl)

pub sequences::Sequence::round-part-e-requires : goal.sequences::Sequence::round-part-e-requires
unfolding child_count child_counts binding
sequences::Sequence::round-part-e-requires t c =
    let v = c.requires.0 in
    let separator = below_here _ _ _ _ v 9 c.args.self.now.is_sequence 1 (lit≤ tt) refl in
    let inside : c.if-r-eq0.r.end ≤ total c.args.self.now.reader.now.input.now =
    elim c.if-r-eq0.branch [
      | sequences::Sequence::round-then-r-eq0 w ↦ rw w.r-is v.inside
      | sequences::Sequence::round-else-r-eq0 w ↦ rw (w.r-is, w.part-s.ensures.reads.is) (ends _ _ _ _ separator.visit).to
    ] in
    (omega (arith, c.decreases), below_kind _ _ _ _ v 9 c.args.self.now.is_sequence _ c.if-r-eq0.auto.lent _ inside 0 (lit≤ tt) refl)

pub sequences::Sequence::round-returns-clause-reads : goal.sequences::Sequence::round-returns-clause-reads
sequences::Sequence::round-returns-clause-reads t c =
    let element = grown-one _ _ _ _ _ _ _ _ _ _ _ c.part-e.ensures.reads c.any_of-2.ensures.value c.together-2.ensures in
    elim c.if-r-eq0.branch [
      | sequences::Sequence::round-then-r-eq0 w ↦ rw (← w.lent-is, ← w.tables-is, ← w.r-is) (round-first _ _ _ _ _ _ _ _ element (ap (λ (r : Rounds). r.elements) w.r-is ∙ w.if-r-eq0.true))
      | sequences::Sequence::round-else-r-eq0 w ↦ round-next _ _ _ _ _ _ _ _ element _ _ _ w.if-r-eq0.false
          (rw (w.lent-is, w.tables-is, w.r-is) (grown-one _ _ _ _ _ _ _ _ _ _ _ w.part-s.ensures.reads w.any_of.ensures.value w.together.ensures))
    ]

-- All rounds: what was read and what is to come are the rounds of 01, and each round that goes on leaves fewer bits.
pub sequences::Sequence::rounds-loop-begin-init : goal.sequences::Sequence::rounds-loop-begin-init
sequences::Sequence::rounds-loop-begin-init t c = (going_first _ _ _ _ _ _ c.requires.inside, refl, search rules)

pub sequences::Sequence::rounds-round-r-requires : goal.sequences::Sequence::rounds-round-r-requires
sequences::Sequence::rounds-round-r-requires t c =
    let v = c.requires in
    let g = c.loop-begin.invariant in (
      omega (arith, c.decreases),
      (visit-at _ _ _ _ v _ (c.done.auto.lent ∙ g.1) _ g.0.inside, going_few _ _ _ _ _ _ _ _ _ c.args.self.now.reader.now.short g.0),
    )

pub sequences::Sequence::rounds-loop-begin-smaller : goal.sequences::Sequence::rounds-loop-begin-smaller
sequences::Sequence::rounds-loop-begin-smaller t c =
    let g = c.loop-begin.invariant in
    let d = c.done.ensures in
    let f = further _ _ _ _ _ _ _ _ _ g.0 _ d.1 _ d.0 _ _ _ c.round-r.ensures.reads c.if-r-begin.false in
    omega (arith, f)

pub sequences::Sequence::rounds-loop-begin-preserved : goal.sequences::Sequence::rounds-loop-begin-preserved
sequences::Sequence::rounds-loop-begin-preserved t c =
    let g = c.loop-begin.invariant in
    let d = c.done.ensures in (
      going_on _ _ _ _ _ _ _ _ _ g.0 _ d.1 _ d.0 _ _ _ c.round-r.ensures.reads c.loop-begin-test.true c.if-r-begin.false,
      c.round-r.auto.lent ∙ c.done.auto.lent ∙ g.1,
      same-still _ _ _ g.2 c.round-r.ensures.same,
    )

pub sequences::Sequence::rounds-returns-after-loop-begin-clause-reads : goal.sequences::Sequence::rounds-returns-after-loop-begin-clause-reads
sequences::Sequence::rounds-returns-after-loop-begin-clause-reads t c =
    let g = c.loop-begin.invariant in
    let d = c.done.ensures in
    going_done _ _ _ _ _ _ _ _ _ g.0 _ d.1 _ d.0 c.loop-begin-test.false

pub sequences::Sequence::rounds-returns-then-r-begin-clause-reads : goal.sequences::Sequence::rounds-returns-then-r-begin-clause-reads
sequences::Sequence::rounds-returns-then-r-begin-clause-reads t c =
    let g = c.loop-begin.invariant in
    let d = c.done.ensures in
    going_still _ _ _ _ _ _ _ _ _ g.0 _ d.1 _ d.0 _ _ _ c.round-r.ensures.reads c.loop-begin-test.true c.if-r-begin.true

-- "scan": the starts before this one had errors and left nothing.
pub nodes::Reader::scan-tried-a-requires : goal.nodes::Reader::scan-tried-a-requires
unfolding child_count child_counts binding total
nodes::Reader::scan-tried-a-requires t c =
    let g = c.loop-p.invariant in
    (omega (arith, c.decreases), below_kind _ _ _ _ c.requires.0 12 c.requires.1 _ g.1 _ c.loop-p-test.true 0 (lit≤ tt) refl)

pub nodes::Reader::scan-returns-then-a-eq0-clause-reads : goal.nodes::Reader::scan-returns-then-a-eq0-clause-reads
unfolding total
nodes::Reader::scan-returns-then-a-eq0-clause-reads t c =
    scan-end _ _ _ _ _ _ _ _ c.loop-p.invariant.0 _ _ _ c.tried-a.ensures.reads c.requires.0.some-node c.requires.1 _ _ _ _ c.loop-p-test.true c.if-a-eq0.true
    c.found-own.ensures c.together.ensures c.enter.ensures.entered

pub nodes::Reader::scan-loop-p-preserved : goal.nodes::Reader::scan-loop-p-preserved
unfolding total
nodes::Reader::scan-loop-p-preserved t c =
    let g = c.loop-p.invariant in (
      trying_on _ _ _ _ _ _ _ _ g.0 _ _ _ c.tried-a.ensures.reads c.if-a-eq0.false c.loop-p-test.true,
      c.tried-a.auto.lent ∙ g.1,
      same-still _ _ _ g.2 c.tried-a.ensures.same,
    )

pub nodes::Reader::scan-returns-clause-reads : goal.nodes::Reader::scan-returns-clause-reads
unfolding total
nodes::Reader::scan-returns-clause-reads t c =
    elim c.loop-p-test.branch [
      | nodes::Reader::scan-else-loop-p-test w ↦ scan_failed _ _ _ _ _ _ _ _ (rw (w.lent-is, w.tables-is) c.loop-p.invariant.0) c.requires.0.some-node c.requires.1 _ _ _ _ w.loop-p-test.false
          c.failed.ensures refl c.enter-2.ensures.entered
      | nodes::Reader::scan-then-loop-p-test+else-a-eq0+else-p-total w ↦ scan_failed _ _ _ _ _ _ _ (c.loop-p.p + 1)
          (rw (w.lent-is, w.tables-is) (trying_on _ _ _ _ _ _ _ _ c.loop-p.invariant.0 _ _ _ w.tried-a.ensures.reads w.if-a-eq0.false w.loop-p-test.true)) c.requires.0.some-node c.requires.1 _ _ _ _ (omega arith)
          c.failed.ensures refl c.enter-2.ensures.entered
    ]

-- "sequence": its entry is made from what the rounds gave.
pub nodes::Reader::sequence-value_of-operand-requires : goal.nodes::Reader::sequence-value_of-operand-requires
unfolding row_of kinds
nodes::Reader::sequence-value_of-operand-requires t c =
    let v = c.requires.0 in
    record {
      operand = (v.some-node, rw c.requires.1 (lit≤ tt));
      free_in_bounds = omega (arith, sequence-needs _ _ _ (c.args.self.now.nodes.known _ v.some-node) c.requires.1, v.bound);
    }

pub nodes::Reader::sequence-returns-clause-reads : goal.nodes::Reader::sequence-returns-clause-reads
nodes::Reader::sequence-returns-clause-reads t c =
    sequence-end _ _ _ _ c.requires.0.some-node _ _ _ _ _ c.requires.1 _ _ _ _ (to_z-of_z (sfits_of {w = w64} c.value_of-operand.type_inv) ∙ c.value_of-operand.ensures) c.rounds-r.ensures.reads c.of_rounds.ensures refl c.enter.ensures.entered

-- A child that is tried: where it has errors, what it wrote is forgotten.
pub nodes::Reader::tried-returns-then-r-ne0-clause-reads : goal.nodes::Reader::tried-returns-then-r-ne0-clause-reads
nodes::Reader::tried-returns-then-r-ne0-clause-reads t c =
    tried_gone _ _ _ _ _ _ _ c.part-r.ensures.reads _ _ c.if-r-ne0.true c.together-end.ensures
    c.part-r.ensures.same.values_length c.part-r.ensures.same.descriptors_length c.forget.ensures.values c.forget.ensures.descriptors

-- "where": its entry is made from what the child gave and whether the relation holds.
pub nodes::Reader::where_holds-part-a-requires : goal.nodes::Reader::where_holds-part-a-requires
unfolding child_count child_counts binding
nodes::Reader::where_holds-part-a-requires t c =
    (omega (arith, c.decreases), below_here _ _ _ _ c.requires.0 8 c.requires.1 0 (lit≤ tt) refl)

pub nodes::Reader::where_holds-value_of-value-requires : goal.nodes::Reader::where_holds-value_of-value-requires
unfolding row_of kinds
nodes::Reader::where_holds-value_of-value-requires t c =
    let v = c.requires.0 in
    record {
      operand = (v.some-node, rw c.requires.1 (lit≤ tt));
      free_in_bounds = omega (arith, where_needs _ _ _ (c.args.self.now.nodes.known _ v.some-node) c.requires.1, v.bound, c.part-a.auto.lent);
    }

pub nodes::Reader::where_holds-enter-requires : goal.nodes::Reader::where_holds-enter-requires
nodes::Reader::where_holds-enter-requires t c =
    rw (c.where_own-own.ensures, where_node _ _ _ _) (c.args.self.now.nodes.known _ c.requires.0.some-node).few

pub nodes::Reader::where_holds-returns-clause-reads : goal.nodes::Reader::where_holds-returns-clause-reads
nodes::Reader::where_holds-returns-clause-reads t c =
    let number = to_z-of_z {w = w64} {z = c.part-a.result.number} (search rules) in
    let told = ap₂ (holds (relation_meant c.relation_of-relation.result)) number (to_z-of_z (sfits_of {w = w64} c.value_of-value.type_inv)) in
    where_end _ _ _ _ c.requires.0.some-node _ _ _ _ _ c.requires.1 _ _ _ _ _ _ c.part-a.ensures.reads c.relation_of-relation.ensures c.value_of-value.ensures
    (c.in_relation-holds.ensures ∙ told) c.where_own-own.ensures c.together.ensures c.enter.ensures.entered

-- By the kind.
use Rattle.std.proofs.Common.{◌≡◌, ℕ, ◌-◌, ◌<◌, ◌≤◌, sym, ap, ◌∙◌, lit≤, arith, rules}
use Rattle.std.proofs.lemmas.Nat.{one_shl}
use Rattle.description.specs.Kinds.{kinds, row_of}
use Rattle.description.specs.Places.{kind_of, field_of}
use Rattle.description.specs.declared.kinds.Kind.TheVariants as kind
use Rattle.description.proofs.Visiting.{body_bytes, number-range}
use Rattle.writing.specs.Fields.{is_unwritable}
use Rattle.writer.proofs.ByKind.{node_field-by, unwritable_by, nothing_by}
use Rattle.writer.proofs.Looked.{with_bits, signed-is, looked-bits, looked-signed}
use Rattle.writer.proofs.stored.Stored.of_node.Goals as goal
use Rattle.writer.proofs.stored.Stored.of_node.Goals.{Start}

pub field_of-requires-clause-inside : goal.field_of-requires-clause-inside
unfolding row_of kinds
field_of-requires-clause-inside c =
    body_bytes _ _ _ (c.args.nodes.now.known c.args.node c.requires) 2 1 (sym c.in-Bits.ensures) (lit≤ tt)

pub field_of-width-requires-clause-inside : goal.field_of-width-requires-clause-inside
unfolding row_of kinds
field_of-width-requires-clause-inside c =
    body_bytes _ _ _ (c.args.nodes.now.known c.args.node c.requires) 3 1 (sym c.in-Signed.ensures) (lit≤ tt)

-- the width of bits and signed is 1 to 32
in-range : (c : Start) (k : ℕ) → k ≡ kind_of c.args.nodes.now.desc.now c.args.node → (2 ≤ k) × (k < 4)
    → (1 ≤ field_of c.args.nodes.now.desc.now c.args.node 0) × (field_of c.args.nodes.now.desc.now c.args.node 0 ≤ 32)
in-range c k e h = number-range _ _ _ (c.args.nodes.now.known c.args.node c.requires) k (sym e) h.0 h.1

pub new-requires : goal.new-requires
new-requires c =
    let r = in-range (goal.at.new-requires c).Start 2 c.in-Bits.ensures (lit≤ tt, lit≤ tt) in
    rw c.field_of.ensures (looked-bits _ r.0 r.1)

pub overflow_sub-width : goal.overflow_sub-width
overflow_sub-width c = rw c.field_of-width.ensures (in-range (goal.at.overflow_sub-width c).Start 3 c.in-Signed.ensures (lit≤ tt, lit≤ tt)).0

pub overflow_shl-width : goal.overflow_shl-width
overflow_shl-width c = omega (arith, c.field_of-width.ensures, (in-range (goal.at.overflow_shl-width c).Start 3 c.in-Signed.ensures (lit≤ tt, lit≤ tt)).1)

pub new-requires-in-Signed : goal.new-requires-in-Signed
new-requires-in-Signed c =
    let r = in-range (goal.at.new-requires-in-Signed c).Start 3 c.in-Signed.ensures (lit≤ tt, lit≤ tt) in
    let w = c.field_of-width.result in
    rw (one_shl (w - 1) 32 (omega (arith, c.field_of-width.ensures, r)), c.field_of-width.ensures) (looked-signed _ r.0 r.1)

pub returns-in-Bits : goal.returns-in-Bits
unfolding is_unwritable
returns-in-Bits c =
    let is = node_field-by _ _ kind.Bits c.in-Bits.ensures in
    record { unwritable = sym (ap is_unwritable is); value = rw (c.new.ensures, c.field_of.ensures) (with_bits _ (in-range (goal.at.returns-in-Bits c).Start 2 c.in-Bits.ensures (lit≤ tt, lit≤ tt)).0 ∙ sym is) }

pub returns-in-Signed : goal.returns-in-Signed
unfolding is_unwritable
returns-in-Signed c =
    let is = node_field-by _ _ kind.Signed c.in-Signed.ensures in
    let r = in-range (goal.at.returns-in-Signed c).Start 3 c.in-Signed.ensures (lit≤ tt, lit≤ tt) in
    let half = one_shl (c.field_of-width.result - 1) 32 (omega (arith, c.field_of-width.ensures, r)) in
    record { unwritable = sym (ap is_unwritable is); value = rw (c.new-in-Signed.ensures, half, c.field_of-width.ensures) (signed-is _ r.0 ∙ sym is) }

pub returns-in-Both-clause-unwritable : goal.returns-in-Both-clause-unwritable
unfolding is_unwritable
returns-in-Both-clause-unwritable c = sym (ap is_unwritable (node_field-by _ _ _ c.kind_of.ensures ∙ unwritable_by _ _ c.in-Both.is))

pub returns-in_default : goal.returns-in_default
unfolding is_unwritable
returns-in_default c =
    let k = c.in_default in
    let is = node_field-by _ _ _ c.kind_of.ensures ∙ nothing_by _ _ k.not-Bits k.not-Signed k.not-Both k.not-Absorb k.not-Scan in
    record { unwritable = sym (ap is_unwritable is); value = rw is (search rules) }

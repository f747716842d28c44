-- Each kind's clause of the rules, at a node whose kind byte is known.
use Rattle.std.proofs.Common.{◌<◌, ℕ, ◌≤◌, [], ℤ, sym, ap, ◌∙◌, inl, inr, arith, lit≤, to_z-of_z, w64}
use borrow.Author.Rules.{sfits_of}
use Rattle.bits.specs.Bits.{number}
use Rattle.description.specs.Bodies.{byte_of}
use Rattle.description.specs.Kinds.{kinds, row_of}
use Rattle.description.proofs.Ranges.{between}
use Rattle.description.proofs.Visiting.{number_width}
use Rattle.rules.specs.Entries.{reading, ok}
use Rattle.rules.specs.Reading.{read, read_bits}
use Rattle.reader.specs.Inner.Leaves.{number_for}
use Rattle.reader.specs.Inner.Readings.{made}
use Rattle.reader.specs.declared.readings.Own.{Own}
use Rattle.reader.proofs.ByKind.{as_kind, bits-reads}
use Rattle.reader.proofs.nodes.Reader.leaf.Goals as goal
use Rattle.reader.proofs.nodes.Reader.leaf.Goals.{In-Bits}

-- bits or signed
module _ (c : In-Bits) where
  kind-in : (2 ≤ byte_of c.args.kind) × (byte_of c.args.kind < 4)
  kind-in = elim c.in-Bits.is [ inl e ↦ rw e (omega arith, omega arith) | inr e ↦ rw e (omega arith, omega arith) ]

pub field_of-w-requires-clause-inside : goal.field_of-w-requires-clause-inside
unfolding row_of kinds
field_of-w-requires-clause-inside c =
    let here = kind-in (goal.at.field_of-w-requires-clause-inside c).In-Bits in
    rw (← c.requires.1) (between (λ k. 1 ≤ (row_of k).bytes) 2 2 (lit≤ tt, (lit≤ tt, tt)) _ here.0 here.1)

pub bits-requires : goal.bits-requires
bits-requires c =
    let v = c.requires.0 in
    let here = kind-in (goal.at.bits-requires c).In-Bits in
    (v.inside, rw c.field_of-w.ensures (number_width _ _ _ (c.args.self.now.nodes.known _ v.some-node) _ (sym c.requires.1) here.0 here.1))

pub returns-in-Bottom : goal.returns-in-Bottom
unfolding read
returns-in-Bottom c =
    as_kind _ _ _ _ c.requires.0.some-node 1 (sym c.requires.1 ∙ ap byte_of c.in-Bottom.is)
    ∙ sym (ap (λ (r : Own). made r []) c.failed.ensures)

pub returns-in-Compute : goal.returns-in-Compute
unfolding read
returns-in-Compute c =
    let a = c.args in
    as_kind _ _ _ _ c.requires.0.some-node 10 (sym c.requires.1 ∙ ap byte_of c.in-Compute.is)
    ∙ ap (λ (z : ℤ). reading a.at.node a.o a.o 0 ok z 0 []) (sym (to_z-of_z (sfits_of {w = w64} c.compute.type_inv) ∙ c.compute.ensures))
    ∙ sym (ap (λ (r : Own). made r []) c.clean-in-Compute.ensures)

pub returns-in-Bits : goal.returns-in-Bits
returns-in-Bits c =
    let a = c.args in
    let here = kind-in (goal.at.returns-in-Bits c).In-Bits in
    bits-reads _ _ _ _ c.requires.0.some-node _ (sym c.requires.1) here.0 here.1
    ∙ ap (λ (n : ℕ). read_bits a.self.now.input.now a.at.node a.o n (number_for (byte_of a.kind) n (number a.self.now.input.now a.o n))) (sym c.field_of-w.ensures)
    ∙ c.bits.ensures

pub returns-in-Unit : goal.returns-in-Unit
unfolding read
returns-in-Unit c =
    as_kind _ _ _ _ c.requires.0.some-node 0 (sym c.requires.1 ∙ ap byte_of c.in-Unit.is)
    ∙ sym (ap (λ (r : Own). made r []) c.clean.ensures)

-- What a node is to the writer, by its kind.
use Rattle.std.proofs.Common.{◌≡◌, ℕ, ◌+◌, ◌⊎◌, List, inl, inr, sym, refl, ap, ◌∙◌, add-zero}
use Rattle.description.specs.Bodies.{byte_of}
use Rattle.description.specs.Check.{node_at}
use Rattle.description.specs.Kinds.{byte, unit_row, kinds, row_of}
use Rattle.description.specs.Places.{start, kind_of, field_of}
use Rattle.description.specs.declared.kinds.Kind.{Kind}
use Rattle.description.specs.declared.kinds.Kind.TheVariants as kind
use Rattle.writing.specs.Fields as fields
use Rattle.writing.specs.declared.Field.{Field}
use Rattle.writing.specs.declared.Field.TheVariants.{Nothing, Bits, Signed, Unwritable}
use Rattle.writer.specs.Inner.Fields.{node_field}

-- with the first byte of its body
abbrev pub field_by : Kind → ℕ → Field
field_by kind.Bits w = Bits w
field_by kind.Signed w = Signed w
field_by kind.Both w = Unwritable
field_by kind.Absorb w = Unwritable
field_by kind.Scan w = Unwritable
field_by _ w = Nothing

as-row : (d : List ℕ) (i : ℕ) (k : Kind) → fields.field_of ((row_of (byte_of k)).node d i) ≡ field_by k (byte d i)
unfolding fields.field_of row_of kinds unit_row
as-row d i kind.Unit = refl
as-row d i _ = refl

pub node_field-by : (d : List ℕ) (n : ℕ) (k : Kind) → byte_of k ≡ kind_of d n → node_field d n ≡ field_by k (field_of d n 0)
unfolding node_field node_at kind_of field_of
node_field-by d n k e =
    let i = start d n + 1 in
    ap (λ (b : ℕ). fields.field_of ((row_of b).node d i)) (sym e) ∙ as-row d i k ∙ ap (λ (j : ℕ). field_by k (byte d j)) (sym (add-zero i))

-- the kinds that are matched together
pub unwritable_by : (k : Kind) (w : ℕ) → (k ≡ kind.Both) ⊎ ((k ≡ kind.Absorb) ⊎ (k ≡ kind.Scan)) → field_by k w ≡ Unwritable
unwritable_by k w (inl e) = ap (λ (k : Kind). field_by k w) e
unwritable_by k w (inr (inl e)) = ap (λ (k : Kind). field_by k w) e
unwritable_by k w (inr (inr e)) = ap (λ (k : Kind). field_by k w) e

pub nothing_by : (k : Kind) (w : ℕ) → (k ≡ kind.Bits → ⊥) → (k ≡ kind.Signed → ⊥) → (k ≡ kind.Both → ⊥) → (k ≡ kind.Absorb → ⊥) → (k ≡ kind.Scan → ⊥) → field_by k w ≡ Nothing
nothing_by kind.Bits w b s o a c = absurd (b refl)
nothing_by kind.Signed w b s o a c = absurd (s refl)
nothing_by kind.Both w b s o a c = absurd (o refl)
nothing_by kind.Absorb w b s o a c = absurd (a refl)
nothing_by kind.Scan w b s o a c = absurd (c refl)
nothing_by _ w b s o a c = refl

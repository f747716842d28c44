-- What is looked up of a node: its field, by three numbers.
use Rattle.std.specs.Prelude.{◌≡◌, ℕ, zero, suc, ◌-◌, ◌^◌, ◌≤◌}
use Rattle.writing.specs.Bits.{width_of}
use Rattle.writing.specs.declared.Field.{Field}
use Rattle.writing.specs.declared.Field.TheVariants.{Nothing, Bits, Signed, Unwritable}

-- Half of what a two's complement number of the field's width can be, 0 where it has no sign.
unfoldable pub half_of : Field → ℕ
half_of Nothing = 0
half_of (Bits w) = 0
half_of (Signed w) = 2 ^ (w - 1)
half_of Unwritable = 0

-- The field with this width, 0 where nothing of it is stored, and this half.
abbrev pub field_with : (width half : ℕ) → Field
field_with zero half = Nothing
field_with (suc w) zero = Bits (suc w)
field_with (suc w) (suc h) = Signed (suc w)

-- The three numbers are those of the field: its width, the largest number of that width, and half.
pub record IsLooked (f : Field) (w m h : ℕ) : Type 0 where
  pub narrow : w ≤ 32
  pub width : w ≡ width_of f
  pub most : m ≡ 2 ^ width_of f - 1
  pub half : h ≡ half_of f

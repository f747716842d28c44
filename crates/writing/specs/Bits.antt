-- Bits in a row, and the bytes that they make.
use Rattle.std.specs.Prelude.{ℕ, zero, suc, ◌+◌, ◌*◌, ◌/◌, ◌%◌, ◌^◌, Bool, true, List, [], ◌∷◌, eqb, ltb, drop}
use Rattle.bits.specs.Whole.{twos_complement, word}
use Rattle.writing.specs.declared.Field.{Field}
use Rattle.writing.specs.declared.Field.TheVariants.{Nothing, Bits, Signed, Unwritable}

-- The w low bits of a number, most significant first.
unfoldable pub in_width : ℕ → ℕ → List ℕ
in_width zero n = []
in_width (suc w) n = n / 2 ^ w % 2 ∷ in_width w n

-- How many bits a field has, 0 where nothing of it is stored.
abbrev pub width_of : Field → ℕ
width_of Nothing = 0
width_of (Bits w) = w
width_of (Signed w) = w
width_of Unwritable = 0

-- The bits that a number of this field is written as: "each in its width".
unfoldable pub field_bits : Field → ℕ → List ℕ
field_bits f n = in_width (width_of f) n

-- Whether a number is one of its width, "signed ones sign-extended to 32 bits". A field that is not written is asked nothing.
unfoldable pub of_width : Field → ℕ → Bool
of_width Nothing n = true
of_width (Bits w) n = ltb n (2 ^ w)
of_width (Signed w) n = eqb n (word (twos_complement w (n % 2 ^ w)))
of_width Unwritable n = true

-- The number of the first w bits of a row; where the row has ended stand zero bits.
unfoldable pub value : ℕ → List ℕ → ℕ
value zero bits = 0
value (suc w) [] = 0
value (suc w) (b ∷ bits) = b * 2 ^ w + value w bits

-- How many bytes so many bits take: "padded with zero bits to a byte".
unfoldable pub bytes_for : ℕ → ℕ
bytes_for n = (n + 7) / 8

-- A buffer of n bytes that a row of bits is written to, eight to a byte: "padded with zero bits", and "bytes after the written ones are 0".
unfoldable pub packed : ℕ → List ℕ → List ℕ
packed zero bits = []
packed (suc n) bits = value 8 bits ∷ packed n (drop 8 bits)

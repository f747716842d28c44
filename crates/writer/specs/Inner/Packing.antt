-- A row of bits, partly in a buffer.
use Rattle.std.specs.Prelude.{◌≡◌, ℕ, ◌+◌, ◌-◌, ◌*◌, ◌/◌, ◌^◌, ◌≤◌, List, ◌++◌, length, take}
use Rattle.writing.specs.Bits.{in_width, packed}
use Rattle.writer.specs.declared.packer.Packer.{Packer}

-- The row is in `at` bytes of the buffer and in the low `held` bits of `acc`, and whatever is put after it goes on from there. Past the buffer's end
-- only its length is known. Said of the parts, since inside `put` more bits are held than a packer ever has.
pub record Stands (row : List ℕ) (at held acc : ℕ) (buffer : List ℕ) : Type 0 where
  pub long : length row ≡ 8 * at + held
  pub kept : at ≤ length buffer
      → (more : List ℕ) → packed (length buffer) (row ++ more) ≡ take at buffer ++ packed (length buffer - at) (in_width held acc ++ more)

-- The same, where the bits that are held are the highest of `acc`, above so many places that are free.
abbrev pub Held : (row : List ℕ) (at free acc : ℕ) (buffer : List ℕ) → Type 0
Held row at free acc buffer = Stands row at (64 - free) (acc / 2 ^ free) buffer

-- The row is in what a packer has.
abbrev pub Packs : List ℕ → Packer → Type 0
Packs row packer = Held row packer.at packer.free packer.acc packer.buffer.now

-- The row of bits asks of its byte what the arm tests.
use Rattle.description.specs.Kinds.{byte, kinds, row_of}
use Rattle.description.proofs.fields.is_listed.Goals as goal

pub returns-in-Bits : goal.returns-in-Bits
unfolding row_of kinds byte
returns-in-Bits c = rw c.in-Bits.is c.is_width.ensures

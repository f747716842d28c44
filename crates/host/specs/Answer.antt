-- What the C host is answered.
use Rattle.std.specs.Prelude.{ℕ, ◌+◌, ◌*◌, List, ◌≡◌}
use Rattle.description.specs.Check.{checked}
use Rattle.description.specs.Refusals.{verdict_number, verdict_node}
use Rattle.rules.specs.Outcome.{Stated, Outcome, stated}
use Rattle.writing.specs.Outcome as writing
use Rattle.host.specs.declared.Bits.{Bits}
use Rattle.host.specs.declared.Numbers.{Numbers}

-- "The check alone gives 1 to 11 with the node, or 0 and node 0 where it accepts", 11 never: the refusal plus 256 times the node.
unfoldable pub answer : List ℕ → ℕ
answer desc = verdict_number (checked desc) + 256 * verdict_node (checked desc)

-- 01's four numbers of a call, as C has them.
unfoldable pub numbers_of : Stated → Numbers
numbers_of s = record { refusal = s.refusal; node = s.node; count = s.count; end = s.end }

-- What a host has of a call whose outcome is o: its four numbers, and both tables afterwards.
pub record Got (o : Outcome) (r : Numbers) (v d : List ℕ) : Type 0 where
  pub numbers : r ≡ numbers_of (stated o.answer)
  pub values : v ≡ o.values
  pub descriptors : d ≡ o.descriptors

-- The three numbers of a call of the writer, as C has them.
unfoldable pub bits_of : writing.Stated → Bits
bits_of s = record { refusal = s.refusal; node = s.node; bits = s.bits }

-- What a host has of a call of the writer whose outcome is o: its three numbers, and the buffer afterwards.
pub record Wrote (o : writing.Outcome) (r : Bits) (b : List ℕ) : Type 0 where
  pub numbers : r ≡ bits_of (writing.stated o.answer)
  pub buffer : b ≡ o.buffer

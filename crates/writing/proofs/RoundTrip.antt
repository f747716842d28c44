-- The round trip: what is read with zero errors is written back bit for bit.
use Prim.Native.Nat.{ℕ, ◌≤◌, ◌<◌}
use mathlib.Core.Bool.{false}
use mathlib.Core.List.{List}
use mathlib.Core.Path.{◌≡◌, sym, ap, ◌∙◌}
use native.Mathlib.Omega.{arith}
use lib.ListN.{length}
use Rattle.std.specs.Prelude.{Ok}
use Rattle.bits.specs.Bits.{bit}
use Rattle.rules.specs.Outcome as reader
use Rattle.writing.specs.Bits.{bytes_for}
use Rattle.writing.specs.Fields.{fields_of, some_unwritable}
use Rattle.writing.specs.Outcome.{outcome}
use Rattle.writing.proofs.Listed.{entry_bits}
use Rattle.writing.proofs.PackedBits.{packed-bit}
use Rattle.writing.proofs.Rows.{row, row-length, row_at, row-bits}
use Rattle.writing.proofs.Stored.{Stored, stored}
use Rattle.writing.proofs.Tiling.{tiled-row, tiled-right}
use Rattle.writing.proofs.Outcomes.{written}
use Rattle.writing.proofs.Written.{entries-written}
use Rattle.promises.specs.Table.{entry_at}

-- The writer answers `end` bits, and they are the input's.
pub record Returned (n : ℕ) (desc input values : List ℕ) (count end : ℕ) : Type 0 where
  pub answer : (outcome n desc values count).answer ≡ Ok end
  pub bits : (k : ℕ) → k < end → bit (outcome n desc values count).buffer k ≡ bit input k

module _ (n : ℕ) (desc input values descriptors : List ℕ) (count end : ℕ) (writable : some_unwritable (fields_of desc) ≡ false) (room : bytes_for end ≤ n) where
  returned : Stored desc input values descriptors count end → Returned n desc input values count end
  unfolding bytes_for
  returned s =
      let r = tiled-row input (fields_of desc) 0 end s.entries s.tiled in
      let whole : r.0 ≡ end = omega (arith, r.1) in
      let bits : entry_bits (fields_of desc) s.entries ≡ row input 0 end = r.2 ∙ ap (row input 0) whole in
      let many : length (entry_bits (fields_of desc) s.entries) ≡ end = ap length bits ∙ row-length input 0 end in
      let is : outcome n desc values count ≡ written n (row input 0 end) =
      ap (outcome n desc values) (sym s.many)
      ∙ entries-written n desc s.tree s.means writable values descriptors s.entries s.are
      (tiled-right input (fields_of desc) 0 end s.entries s.tiled) (omega (arith, s.many, s.held)) (omega (arith, s.few))
      ∙ ap (written n) bits in
      record {
        answer = ap (λ o. o.answer) is ∙ ap Ok (row-length input 0 end);
        bits = λ k h.
            ap (λ o. bit o.buffer k) is
            ∙ packed-bit n k (row input 0 end) (row-bits input 0 end) (omega arith)
            ∙ row_at input 0 end k h
            ∙ ap (bit input) (omega arith);
      }

-- Of every call of the reader that succeeds with no error at the root, of a description that the writer takes, and of a buffer with room.
pub round_trip : (n v d : ℕ) (desc input : List ℕ) (count end : ℕ) → (let o = reader.outcome v d desc input in
    o.answer ≡ reader.success count end → (entry_at o.values o.descriptors 0).errors ≡ 0 → some_unwritable (fields_of desc) ≡ false → bytes_for end ≤ n
    → Returned n desc input o.values count end)
round_trip n v d desc input count end s clean writable room =
    returned n desc input _ _ count end writable room (stored v d desc input count end s clean writable)

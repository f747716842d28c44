-- The round trip of a caller who reads a record and writes its table back, and who replaces a number first, by the two contracts alone.
use Prim.Native.Nat.{ℕ, ◌+◌, ◌%◌, ◌^◌, ◌≤◌, ◌<◌}
use mathlib.Core.Bool.{true, false}
use mathlib.Core.List.{List}
use mathlib.Core.Logic.{◌⊎◌}
use mathlib.Core.Path.{◌≡◌, sym, ap, subst, ◌∙◌}
use Rattle.std.specs.Prelude.{Result, Ok}
use Rattle.bits.specs.Bits.{bit, number}
use Rattle.rules.specs.Outcome as reading
use Rattle.promises.specs.Table.{entry_at}
use Rattle.reader.specs.Answers as reader
use Rattle.writing.specs.Bits.{of_width, bytes_for}
use Rattle.writing.specs.Entries.{field_at}
use Rattle.writing.specs.Fields.{fields_of, some_unwritable}
use Rattle.writing.specs.Outcome.{Outcome, given, outcome}
use Rattle.writing.specs.declared.Refused.{Refused}
use Rattle.writing.proofs.Replaced.{IsNumber, Changed, replaced-number}
use Rattle.writing.proofs.Replacing.{replaced}
use Rattle.writing.proofs.RoundTrip.{Returned, round_trip}
use Rattle.contracts.proofs.Callers.{succeeds}
use Rattle.contracts.proofs.Determined.{success_with}

-- What a caller of the writer holds is the outcome's.
module _ (a : Result ℕ Refused) (buffer : List ℕ) (o : Outcome) (call : given a buffer ≡ o) where
  pub writer_answer : a ≡ o.answer
  unfolding given
  writer_answer = ap (λ (p : Outcome). p.answer) call

  pub writer_buffer : buffer ≡ o.buffer
  unfolding given
  writer_buffer = ap (λ (p : Outcome). p.buffer) call

-- A call of the reader that succeeded with a root of zero errors, of a description that 14 does not refuse.
module _ (v d : ℕ) (desc input : List ℕ) (count end : ℕ) (values descriptors : List ℕ)
    (read : reader.given (success_with count end) values descriptors ≡ reading.outcome v d desc input) (clean : (entry_at values descriptors 0).errors ≡ 0)
    (writable : some_unwritable (fields_of desc) ≡ false) (n : ℕ) (room : bytes_for end ≤ n) where
  -- what holds of the outcome's tables holds of the caller's
  held : (P : List ℕ → List ℕ → Type 0) → (let o = reading.outcome v d desc input in (entry_at o.values o.descriptors 0).errors ≡ 0 → P o.values o.descriptors) → P values descriptors
  unfolding reader.given
  held P h = subst (λ (o : reading.Outcome). (entry_at o.values o.descriptors 0).errors ≡ 0 → P o.values o.descriptors) (sym read) h clean

  -- and a call of the writer with that table
  pub caller_returned : (a : Result ℕ Refused) (buffer : List ℕ) → given a buffer ≡ outcome n desc values count → (a ≡ Ok end) × ((k : ℕ) → k < end → bit buffer k ≡ bit input k)
  caller_returned a buffer call =
      let r = held (λ vs ds. Returned n desc input vs count end) (λ e. round_trip n v d desc input count end (succeeds v d desc input count end values descriptors read) e writable room) in (
        writer_answer a buffer _ call ∙ r.answer,
        λ k h. ap (λ (b : List ℕ). bit b k) (writer_buffer a buffer _ call) ∙ r.bits k h,
      )

  -- or with one number of it replaced by another of its width
  pub caller_changed : (i w m : ℕ) → i < count → IsNumber (field_at values (fields_of desc) i) w → of_width (field_at values (fields_of desc) i) m ≡ true
      → (a : Result ℕ Refused) (buffer : List ℕ) → given a buffer ≡ outcome n desc (replaced values i m) count
      → (let begin = (entry_at values descriptors i).begin in
      (a ≡ Ok end) × ((k : ℕ) → k < end → (k < begin) ⊎ (begin + w ≤ k) → bit buffer k ≡ bit input k) × (number buffer begin w ≡ m % 2 ^ w))
  caller_changed i w m inside is of a buffer call =
      let c =
      held (λ vs ds. IsNumber (field_at vs (fields_of desc) i) w → of_width (field_at vs (fields_of desc) i) m ≡ true → Changed n desc input vs ds count end i w m)
      (λ e number of. replaced-number n v d desc input count end (succeeds v d desc input count end values descriptors read) e writable room i w m inside number of) is of in (
        writer_answer a buffer _ call ∙ c.answer,
        λ k h outside. ap (λ (b : List ℕ). bit b k) (writer_buffer a buffer _ call) ∙ c.elsewhere k h outside,
        ap (λ (b : List ℕ). number b (entry_at values descriptors i).begin w) (writer_buffer a buffer _ call) ∙ c.anew,
      )

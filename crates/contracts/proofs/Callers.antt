-- The promises of the tables that a caller holds after a call that the reader's contract allows.
use Prim.Native.Nat.{ℕ, ◌≤◌, ◌<◌}
use mathlib.Core.List.{List, []}
use mathlib.Core.Logic.{◌⊎◌, inl, inr, ⊎_elim}
use mathlib.Core.Option.{some}
use mathlib.Core.Path.{◌≡◌, sym, ap, subst}
use lib.ListN.{length}
use Rattle.std.specs.Prelude.{Result, Err}
use Rattle.bits.specs.Bits.{total}
use Rattle.description.specs.Check.{accepted, meaning}
use Rattle.description.specs.Trees.{Tree}
use Rattle.rules.specs.Entries.{Entry}
use Rattle.rules.specs.Outcome.{Outcome, success, most_input, outcome}
use Rattle.rules.specs.Reading.{read}
use Rattle.rules.specs.Tables.{room}
use Rattle.promises.specs.Missing.{MissingTold}
use Rattle.promises.specs.Places.{Place, place_of, ZeroErrorsFit, FitsZeroErrors}
use Rattle.promises.specs.Spans.{Spans}
use Rattle.promises.specs.Table.{entry_at}
use Rattle.promises.proofs.EachEntry.{each_placed, zero_errors_fit, fits_zero_errors}
use Rattle.promises.proofs.Missing.{missing_told}
use Rattle.promises.proofs.Spanning.{success-spans}
use Rattle.promises.proofs.Stuck.{never_stuck}
use Rattle.reader.specs.Answers.{said, given}
use Rattle.reader.specs.declared.Refused.{Refused}
use Rattle.reader.specs.declared.Refused.TheVariants.{NoRoom}
use Rattle.reader.specs.declared.Success.{Success}
use Rattle.contracts.proofs.Determined.{success_with, answered}

-- A description that passes the check and an input up to the limit: a success with the entries and the end that the rules give, or refusal 13,
-- and then the entries outnumber the room.
pub caller_unstuck : (v d : ℕ) (desc input : List ℕ) (t : Tree) → meaning desc ≡ accepted t → length input ≤ most_input
    → (a : Result Success Refused) (values descriptors : List ℕ) → given a values descriptors ≡ outcome v d desc input
    → (let r = read input t [] 0 in
    ((length r.entries ≤ room v d) × (a ≡ success_with (length r.entries) r.end)) ⊎ ((room v d < length r.entries) × (a ≡ Err NoRoom)))
caller_unstuck v d desc input t passes short a values descriptors call =
    ⊎_elim (λ s. inl (s.0, answered a values descriptors _ _ call s.1)) (λ c. inr (c.0, answered a values descriptors _ _ call c.1))
    (never_stuck v d desc input t passes short)

-- A call that succeeded.
module _ (v d : ℕ) (desc input : List ℕ) (count end : ℕ) (values descriptors : List ℕ) (call : given (success_with count end) values descriptors ≡ outcome v d desc input) where
  pub succeeds : (outcome v d desc input).answer ≡ success count end
  unfolding given said
  succeeds = ap (λ (o : Outcome). o.answer) (sym call)

  -- what holds of the outcome's tables holds of the caller's
  held : (P : (ℕ → Entry) → Type 0) → P (entry_at (outcome v d desc input).values (outcome v d desc input).descriptors) → P (entry_at values descriptors)
  unfolding given
  held P = subst (λ (o : Outcome). P (entry_at o.values o.descriptors)) (sym call)

  pub caller_spans : Spans (entry_at values descriptors) count (total input)
  caller_spans = held (λ at. Spans at count (total input)) (success-spans v d desc input count end succeeds)

  module _ (root : Tree) (means : meaning desc ≡ accepted root) where
    pub caller_places : (i : ℕ) → i < count → (p : Place) × (place_of root (entry_at values descriptors) i ≡ some p)
    caller_places = held (λ at. (i : ℕ) → i < count → (p : Place) × (place_of root at i ≡ some p)) (each_placed v d desc input count end succeeds root means)

    pub caller_fits : ZeroErrorsFit input root (entry_at values descriptors) count
    caller_fits = held (λ at. ZeroErrorsFit input root at count) (zero_errors_fit v d desc input count end succeeds root means)

    pub caller_clean : FitsZeroErrors input root (entry_at values descriptors) count
    caller_clean = held (λ at. FitsZeroErrors input root at count) (fits_zero_errors v d desc input count end succeeds root means)

    pub caller_missing : MissingTold input root (entry_at values descriptors) count
    caller_missing = held (λ at. MissingTold input root at count) (missing_told v d desc input count end succeeds root means)

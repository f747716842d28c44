-- Any two outcomes that the reader's contract allows for a call are equal: the answer, and every word of both tables.
use Prim.Native.Nat.{ℕ}
use mathlib.Core.List.{List}
use mathlib.Core.Path.{◌≡◌, refl, sym, ap, ◌∙◌}
use Rattle.std.specs.Prelude.{Result, Ok, Err}
use Rattle.rules.specs.Outcome as rules
use Rattle.rules.specs.Outcome.{Outcome, success, bad_description, input_too_long, no_room, stated, outcome}
use Rattle.reader.specs.Answers.{said, stated_by, given}
use Rattle.reader.specs.declared.Refused.{Refused}
use Rattle.reader.specs.declared.Refused.TheVariants.{BadDescription, InputTooLong, NoRoom}
use Rattle.reader.specs.declared.Success.{Success}

-- A success, as the reader answers it.
abbrev pub success_with : (count end : ℕ) → Result Success Refused
success_with count end = Ok (record { count = count; end = end })

-- The answer that says this.
abbrev pub sayer : rules.Answer → Result Success Refused
sayer (success count end) = success_with count end
sayer (bad_description r) = Err (BadDescription r)
sayer input_too_long = Err InputTooLong
sayer no_room = Err NoRoom

sayer-said : (a : Result Success Refused) → sayer (said a) ≡ a
unfolding said
sayer-said (Ok s) = refl
sayer-said (Err (BadDescription r)) = refl
sayer-said (Err InputTooLong) = refl
sayer-said (Err NoRoom) = refl

said-sayer : (r : rules.Answer) → said (sayer r) ≡ r
unfolding said
said-sayer (success count end) = refl
said-sayer (bad_description r) = refl
said-sayer input_too_long = refl
said-sayer no_room = refl

-- There is such an outcome for every call,
pub allowed : (v d : ℕ) (desc input : List ℕ) → (let o = outcome v d desc input in given (sayer o.answer) o.values o.descriptors ≡ o)
unfolding given
allowed v d desc input =
    let o = outcome v d desc input in
    ap (λ (r : rules.Answer). record { answer = r; values = o.values; descriptors = o.descriptors }) (said-sayer o.answer)

module _ (a b : Result Success Refused) (values descriptors values' descriptors' : List ℕ) where
  pub same-given : given a values descriptors ≡ given b values' descriptors' → (a ≡ b) × (values ≡ values') × (descriptors ≡ descriptors')
  unfolding given
  same-given e = (
    sym (sayer-said a) ∙ ap (λ (o : Outcome). sayer o.answer) e ∙ sayer-said b,
    ap (λ (o : Outcome). o.values) e,
    ap (λ (o : Outcome). o.descriptors) e,
  )

  -- and one only.
  pub determined : (v d : ℕ) (desc input : List ℕ) → given a values descriptors ≡ outcome v d desc input → given b values' descriptors' ≡ outcome v d desc input
      → (a ≡ b) × (values ≡ values') × (descriptors ≡ descriptors')
  determined v d desc input e f = same-given (e ∙ sym f)

-- What the outcome answers is what the answer says.
pub answered : (a : Result Success Refused) (values descriptors : List ℕ) (o : Outcome) (r : rules.Answer) → given a values descriptors ≡ o → o.answer ≡ r → a ≡ sayer r
unfolding given
answered a values descriptors o r e s = sym (sayer-said a) ∙ ap sayer (ap (λ (o : Outcome). o.answer) e ∙ s)

-- 01's number, node, count and end of the answer are those of the outcome.
pub as_stated : (a : Result Success Refused) (values descriptors : List ℕ) (v d : ℕ) (desc input : List ℕ) → given a values descriptors ≡ outcome v d desc input
    → stated_by a ≡ stated (outcome v d desc input).answer
unfolding given stated_by
as_stated a values descriptors v d desc input e = ap (λ (o : Outcome). stated o.answer) e

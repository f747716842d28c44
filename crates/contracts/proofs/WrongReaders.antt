-- The five wrong readers of document 01: the reader's contract allows none of them.
use Prim.Native.Nat.{ℕ, ◌-◌}
use mathlib.Core.List.{List, [], ◌∷◌}
use mathlib.Core.Path.{◌≡◌, refl, sym, ap, subst, ◌∙◌}
use native.Mathlib.Omega.{arith}
use lib.ListN.{length}
use Rattle.std.specs.Prelude.{Result}
use Rattle.bits.specs.Bits.{total}
use Rattle.description.specs.Check.{accepted, meaning}
use Rattle.description.specs.Nodes.{Operand}
use Rattle.description.specs.Trees.{Tree, sequence}
use Rattle.rules.specs.Entries.{Entry, reading}
use Rattle.rules.specs.Numbers.{value_of}
use Rattle.rules.specs.Outcome.{Outcome, success, outcome}
use Rattle.rules.specs.Reading.{done_at, read}
use Rattle.rules.specs.Rounds.{rounds}
use Rattle.rules.proofs.Evaluate.{evaluated}
use Rattle.promises.specs.Table.{entry_at}
use Rattle.promises.proofs.Agreeing.{Agrees}
use Rattle.promises.proofs.Cases.{counters, turned, turned-read}
use Rattle.promises.proofs.EachEntry.{accepted-same}
use Rattle.promises.proofs.Succeeded.{Succeeded, succeeded}
use Rattle.promises.proofs.Tabled.{outcome-agrees}
use Rattle.reader.specs.Answers.{given}
use Rattle.reader.specs.declared.Refused.{Refused}
use Rattle.reader.specs.declared.Success.{Success}
use Rattle.contracts.proofs.Callers.{succeeds}
use Rattle.contracts.proofs.Determined.{success_with, answered}

-- One that refuses all: case A has to be a success.
pub refuser : (a : Result Success Refused) (values descriptors : List ℕ) → ((count end : ℕ) → a ≡ success_with count end → ⊥)
    → given a values descriptors ≡ outcome 20 20 counters turned → ⊥
refuser a values descriptors refuses allowed = refuses 5 32 (answered a values descriptors (outcome 20 20 counters turned) (success 5 32) allowed turned-read)

-- another input of case A's description
abbrev other : List ℕ
other = 0xff ∷ 0xff ∷ 0x00 ∷ 0x00 ∷ []

-- the number of entry 1, the first counter, in each of the two
turned-number : (entry_at (outcome 20 20 counters turned).values (outcome 20 20 counters turned).descriptors 1).number ≡ 65530
unfolding evaluated entry_at
turned-number = refl

other-number : (entry_at (outcome 20 20 counters other).values (outcome 20 20 counters other).descriptors 1).number ≡ 65535
unfolding evaluated entry_at
other-number = refl

-- what an allowed table has at an entry is what the outcome has
same-entry : (a : Result Success Refused) (values descriptors : List ℕ) (o : Outcome) → given a values descriptors ≡ o → (i : ℕ)
    → entry_at values descriptors i ≡ entry_at o.values o.descriptors i
unfolding given
same-entry a values descriptors o e i = ap (λ (o : Outcome). entry_at o.values o.descriptors i) e

-- One that returns the tables of case A each time, and one that writes nothing, whatever stood in the tables: no contents serve both calls, with any
-- answers.
pub repeater : (a b : Result Success Refused) (values descriptors : List ℕ) → given a values descriptors ≡ outcome 20 20 counters turned
    → given b values descriptors ≡ outcome 20 20 counters other → ⊥
repeater a b values descriptors first second =
    let f = sym (ap (λ (e : Entry). e.number) (same-entry a values descriptors _ first 1)) in
    let s = ap (λ (e : Entry). e.number) (same-entry b values descriptors _ second 1) in
    let z : ◌≡◌ {A = ℕ} 65530 65535 = sym turned-number ∙ f ∙ s ∙ other-number in
    omega arith

-- One that reads a sequence's first element and copies its entries for the later rounds: bytes over 01 02, where entry 1 is the first element's and
-- entry 3 the second's.
abbrev pub elements : List ℕ
elements = 0x02 ∷ 0x08 ∷ 0x00 ∷ 0x01 ∷ 0x09 ∷ 0x00 ∷ 0x01 ∷ 0x02 ∷ 0x00 ∷ 0xff ∷ 0xff ∷ 0xff ∷ 0xff ∷ []

element-numbers : (let o = outcome 16 16 elements (0x01 ∷ 0x02 ∷ []) in ((entry_at o.values o.descriptors 1).number ≡ 1) × ((entry_at o.values o.descriptors 3).number ≡ 2))
unfolding evaluated entry_at
element-numbers = (refl, refl)

pub copier : (a : Result Success Refused) (values descriptors : List ℕ) → (entry_at values descriptors 3).number ≡ (entry_at values descriptors 1).number
    → given a values descriptors ≡ outcome 16 16 elements (0x01 ∷ 0x02 ∷ []) → ⊥
copier a values descriptors copied allowed =
    let f = ap (λ (e : Entry). e.number) (same-entry a values descriptors _ allowed 1) in
    let s = sym (ap (λ (e : Entry). e.number) (same-entry a values descriptors _ allowed 3)) in
    let z : ◌≡◌ {A = ℕ} 2 1 = sym element-numbers.1 ∙ s ∙ copied ∙ f ∙ element-numbers.0 in
    omega arith

-- One that invents the entry or element count: after every call the count is that of the entries that the rules give, and where the root is a
-- sequence, its entry's detail is that of its rounds.
module _ (v d : ℕ) (desc input : List ℕ) (count end : ℕ) (values descriptors : List ℕ) (call : given (success_with count end) values descriptors ≡ outcome v d desc input)
    (root : Tree) (means : meaning desc ≡ accepted root) where
  abbrev s : Succeeded v d desc input count end
  s = succeeded v d desc input count end (succeeds v d desc input count end values descriptors call)

  same : s.tree ≡ root
  same = accepted-same (sym s.means ∙ means)

  pub entry-count : count ≡ length (read input root [] 0).entries
  entry-count = s.counted ∙ ap (λ (t : Tree). length (read input t [] 0).entries) same

  pub element-count : (n : ℕ) (e p t : Tree) (x : Operand) → root ≡ sequence n e p t x
      → (entry_at values descriptors 0).detail
      ≡ (rounds (read input e []) (read input p []) (done_at input (value_of [] x) (read input t [])) (total input - 0) 0).elements
  unfolding read reading given
  element-count n e p t x is =
      let agrees = subst (λ (u : Tree). Agrees (entry_at values descriptors) 0 (read input u [] 0).entries) (same ∙ is)
      (subst (λ (o : Outcome). Agrees (entry_at o.values o.descriptors) 0 (read input s.tree [] 0).entries) (sym call)
      (outcome-agrees v d desc input s.tree s.means s.short s.fit)) in
      ap (λ (e : Entry). e.detail) agrees.0

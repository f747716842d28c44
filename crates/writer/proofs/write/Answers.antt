-- The table is written, or the buffer is cleared.
use Rattle.std.proofs.Common.{◌≡◌, ℕ, true, false, List, replicate, sym, ◌∙◌, rules}
use Rattle.std.specs.Prelude.{Result, Ok, Err, OnOk, is_err}
use Rattle.writing.specs.Outcome.{Outcome, given, outcome}
use Rattle.writing.specs.declared.Refused.{Refused}
use Rattle.writing.proofs.Outcomes.{outcome-zeroes}
use Rattle.writer.proofs.write.Goals as goal

of-parts : (o : Outcome) (a : Result ℕ Refused) (b : List ℕ) → a ≡ o.answer → b ≡ o.buffer → given a b ≡ o
unfolding given
of-parts o a b e f = λ i. record { answer = e i; buffer = f i }

-- a refusal, into a buffer that is cleared
cleared : (n : ℕ) (desc values : List ℕ) (count : ℕ) (a : Result ℕ Refused) (b : List ℕ) → is_err a ≡ true → a ≡ (outcome n desc values count).answer → b ≡ replicate n 0
    → given a b ≡ outcome n desc values count
cleared n desc values count (Ok bits) b e is zero = absurd (cc)
cleared n desc values count (Err r) b e is zero = of-parts (outcome n desc values count) (Err r) b is (zero ∙ sym (outcome-zeroes n desc values count r (sym is)))

-- or the bytes as they were put
written : (a : Result ℕ Refused) (b : List ℕ) (o : Outcome) → is_err a ≡ false → a ≡ o.answer → OnOk a (b ≡ o.buffer) → given a b ≡ o
written (Ok bits) b o e is same = of-parts o (Ok bits) b is same
written (Err r) b o e is same = absurd (cc)

pub returns-then-is_err : goal.returns-then-is_err
returns-then-is_err c =
    cleared _ _ _ c.args.count _ _ (sym c.is_err.ensures.value ∙ c.if-is_err.true) c.try_write-written.ensures.answer (search rules)

pub returns-else-is_err : goal.returns-else-is_err
returns-else-is_err c =
    let w = c.try_write-written.ensures in
    written _ _ _ (sym c.is_err.ensures.value ∙ c.if-is_err.false) w.answer w.bytes

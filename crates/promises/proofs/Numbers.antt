-- The number that the entry of a number node records is the one that was read, and what a bind lends is what its first child's entry records.
use Prim.Native.Nat.{ℕ, zero, suc, ◌+◌, ◌^◌, ◌≤◌, ◌<◌}
use mathlib.Core.Bool.{true, false, cond}
use mathlib.Core.List.{List}
use mathlib.Core.Path.{◌≡◌, refl, sym, ap, ◌∙◌}
use native.Mathlib.Nat.{lt_of_lt_of_le, mod-eq_of_lt}
use native.Mathlib.Omega.{arith}
use lib.Dec.{eqb, leb}
use lib.IntN.{ℤ, pos}
use lib.Pow.{pow_mono}
use borrow.Author.Tests.{eqb-true}
use Rattle.bits.specs.Bits.{total, number}
use Rattle.bits.specs.Whole.{twos_complement, modulo, word}
use Rattle.bits.proofs.Numbers.{number-below, number_small}
use Rattle.bits.proofs.Words.{modulo-below, signed_word}
use Rattle.description.specs.Nodes.{Relation, Operator, Operand}
use Rattle.description.specs.Trees.{Tree, unit, bottom, bits, signed, then, bind, either, both, where', sequence, compute, absorb, scan}
use Rattle.description.proofs.Choice.{by_test, either_way}
use Rattle.rules.specs.Entries.{Entry, Reading, reading, fail}
use Rattle.rules.specs.Fitting.{is_signed, recorded}
use Rattle.rules.specs.Numbers.{value_of, result}
use Rattle.rules.specs.Reading.{code_for, read_bits, read}
use Rattle.promises.proofs.Sound.{is_number_tree, Sound}

-- A natural below 2 ^ 32 is its own word.
pub word_small : (n : ℕ) → n < 2 ^ 32 → word (pos n) ≡ n
unfolding word modulo
word_small n h = mod-eq_of_lt h

-- No code for errors is fail.
pub never_fail : (e : ℕ) → code_for e ≡ fail → ⊥
unfolding code_for
never_fail zero c = absurd (omega arith)
never_fail (suc e) c = absurd (omega arith)

-- read back from its word, a number of such a node is itself
abbrev Kept : Tree → ℤ → Type 0
Kept t z = cond (is_signed t) (twos_complement 32 (word z)) (pos (word z)) ≡ z

module _ (input : List ℕ) where
  -- What is read of a number node, by cases: kept, and 0 after code fail.
  abbrev pub Numbered : Tree → Reading → Type 0
  Numbered t r = Kept t r.number × (r.code ≡ fail → r.number ≡ pos 0)

  -- bits and signed
  bits-numbered : (t : Tree) (n o w : ℕ) (z : ℤ) → Kept t z → Kept t (pos 0) → Numbered t (read_bits input n o w z)
  unfolding read_bits reading
  bits-numbered t n o w z kept none =
      by_test (Numbered t) (leb (o + w) (total input)) (λ e. (kept, λ c. absurd (omega arith))) (λ e. (none, λ c. refl))

  zero_word : word (pos 0) ≡ 0
  zero_word = word_small 0 (omega arith)

  unsigned_numbered : (n w o : ℕ) → w ≤ 32 → Numbered (bits n w) (read_bits input n o w (pos (number input o w)))
  unfolding is_signed
  unsigned_numbered n w o h =
      bits-numbered (bits n w) n o w (pos (number input o w)) (ap pos (word_small (number input o w) (number_small input o w h))) (ap pos zero_word)

  signed-numbered : (n w o : ℕ) → w ≤ 32 → Numbered (signed n w) (read_bits input n o w (twos_complement w (number input o w)))
  unfolding is_signed twos_complement
  signed-numbered n w o h =
      bits-numbered (signed n w) n o w (twos_complement w (number input o w)) (signed_word w (number input o w) h (number-below input o w)) (ap (twos_complement 32) zero_word)

  where_numbered : (n : ℕ) (a : Tree) (r : Relation) (x : Operand) (lent : List ℤ) (o : ℕ) → Numbered a (read input a lent o) → Numbered (where' n a r x) (read input (where' n a r x) lent o)
  unfolding read reading is_signed
  where_numbered n a r x lent o child =
      by_test (Numbered (where' n a r x)) (eqb (read input a lent o).code fail)
      (λ e. (child.0, λ c. child.1 (eqb-true (read input a lent o).code fail e)))
      (λ e. (child.0, λ c. absurd (never_fail _ c)))

  compute-numbered : (n w : ℕ) (f : Operator) (x y : Operand) (lent : List ℤ) (o : ℕ) → w ≤ 32 → Numbered (compute n w f x y) (read input (compute n w f x y) lent o)
  unfolding read reading is_signed
  compute-numbered n w f x y lent o h =
      (ap pos (word_small _ (lt_of_lt_of_le (modulo-below w (result f (value_of lent x) (value_of lent y))) (pow_mono h))), λ c. absurd (omega arith))

  -- false is not true
  no_number : {A : Type 0} → false ≡ true → A
  no_number e = let z : ◌≡◌ {A = ℕ} 0 1 = ap (λ b. cond b 1 0) e in absurd (omega arith)

  pub numbered : (t : Tree) → is_number_tree t ≡ true → Sound t → (lent : List ℤ) (o : ℕ) → Numbered t (read input t lent o)
  unfolding read
  numbered (unit n) is sound lent o = no_number is
  numbered (bottom n) is sound lent o = no_number is
  numbered (bits n w) is sound lent o = unsigned_numbered n w o sound.1
  numbered (signed n w) is sound lent o = signed-numbered n w o sound.1
  numbered (then n a b) is sound lent o = no_number is
  numbered (bind n a b) is sound lent o = no_number is
  numbered (either n a b) is sound lent o = no_number is
  numbered (both n a b) is sound lent o = no_number is
  numbered (where' n a r x) is sound lent o = where_numbered n a r x lent o (numbered a sound.0 sound.1 lent o)
  numbered (sequence n e s t x) is sound lent o = no_number is
  numbered (compute n w f x y) is sound lent o = compute-numbered n w f x y lent o sound
  numbered (absorb n a) is sound lent o = no_number is
  numbered (scan n a) is sound lent o = no_number is

  -- of a reading r of such a node, whose own entry is e
  module _ (t : Tree) (r : Reading) (is : Numbered t r) (e : Entry) (number : e.number ≡ word r.number) where
    pub recorded-number : recorded t e ≡ r.number
    unfolding recorded
    recorded-number = rw number is.0

    pub lent-number : cond (eqb r.code fail) (pos 0) r.number ≡ recorded t e
    lent-number =
        either_way (eqb r.code fail)
        (λ c. rw c (sym (is.1 (eqb-true r.code fail c)) ∙ sym recorded-number))
        (λ c. rw c (sym recorded-number))

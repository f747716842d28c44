-- The words of the operands are added or subtracted past 2 ^ 32, and the remainder by 2 ^ w leaves what it leaves of the numbers themselves.
use Rattle.std.proofs.Common.{◌≡◌, ℕ, ◌+◌, ◌%◌, ◌^◌, ◌<◌, ◌≤◌, ℤ, pos, ◌+ℤ◌, ◌-ℤ◌, refl, ap, ◌∙◌, arith, rules, to_z-of_z}
use Rattle.bits.specs.Whole.{modulo, word}
use Rattle.description.specs.Bodies.{operator_meant}
use Rattle.description.specs.declared.kinds.Operator.{Operator}
use Rattle.description.specs.declared.kinds.Operator.TheVariants.{Add, Subtract}
use Rattle.bits.proofs.Words.{word_below, word_sum, word-difference, word-modulo}
use Rattle.rules.specs.Numbers.{result}
use Rattle.reader.proofs.numbers.computed.Goals as goal

module _ (w : ℕ) (h : w ≤ 32) (a b : ℤ) (x y : ℕ) (ex : x ≡ word a) (ey : y ≡ word b) (r : ℕ) where
  added : r ≡ (x + y) % 2 ^ 32 → pos (r % 2 ^ w) ≡ pos (modulo w (a +ℤ b))
  added e =
      let same : r ≡ word (a +ℤ b) = omega (arith, word_sum a b) in
      ap pos (ap (λ (n : ℕ). n % 2 ^ w) same ∙ word-modulo w (a +ℤ b) h)

  subtracted : r < 2 ^ 32 → (r + y) % 2 ^ 32 ≡ x → pos (r % 2 ^ w) ≡ pos (modulo w (a -ℤ b))
  subtracted l e =
      let same : r ≡ word (a -ℤ b) = omega (arith, word-difference a b, word_below (a -ℤ b), word_below b) in
      ap pos (ap (λ (n : ℕ). n % 2 ^ w) same ∙ word-modulo w (a -ℤ b) h)

  by_operator : (o : Operator) → r < 2 ^ 32 → (o ≡ Subtract → (r + y) % 2 ^ 32 ≡ x) × (o ≡ Add → r ≡ (x + y) % 2 ^ 32)
      → pos (r % 2 ^ w) ≡ pos (modulo w (result (operator_meant o) a b))
  unfolding result
  by_operator Add l e = added (e.1 refl)
  by_operator Subtract l e = subtracted l (e.0 refl)

pub returns : goal.returns
returns c =
    let a = c.args in
    let x = c.word_of.ensures ∙ ap word (to_z-of_z c.ranges.a) in
    let y = c.word_of-2.ensures ∙ ap word (to_z-of_z c.ranges.b) in
    let low : pos (c.from.result % 2 ^ a.w) ≡ pos (modulo a.w (result (operator_meant a.operator) a.a a.b)) =
    rw c.from.ensures (by_operator a.w c.requires a.a a.b _ _ x y _ a.operator c.on_words.type_inv (c.on_words.ensures.less, c.on_words.ensures.more)) in
    rw (← low) (search rules)

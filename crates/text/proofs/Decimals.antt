-- The decimal of a number of 32 bits is what std's `decimal` is of it. From 10 ^ 64 on std's has the last 64 digits only.
use Rattle.std.proofs.Common.{◌≡◌, ℕ, zero, suc, ◌+◌, ◌*◌, ◌/◌, ◌%◌, ◌^◌, ◌≤◌, ◌<◌, List, [], ◌∷◌, ◌++◌, length, length-append, ltb, ltb-true, ltb-false, sym, ap, subst, ◌∙◌, arith}
use native.Mathlib.Nat.{pow-suc}
use Rattle.description.proofs.Choice.{either_way}
use Rattle.std.specs.Fmt.{decimal as written}
use Rattle.std.proofs.lemmas.Bool.{lt-ltb, le-ltb}
use Rattle.std.proofs.lemmas.Fmt.{AppendsLastDigit, decimal_from_appends, length-decimal-le_succ}
use Rattle.text.specs.Lines.{digits, decimal}

appends : AppendsLastDigit digits
unfolding digits
appends = record {
  one = λ k n h. rw (lt-ltb n 10 h, digits);
  more = λ k n h. rw (le-ltb n 10 h, digits);
}

pub decimal_is : (n : ℕ) → n < 2 ^ 32 → decimal n ≡ written n
unfolding decimal
decimal_is n h = decimal_from_appends digits appends (suc n) n (omega arith) (omega (arith, length-decimal-le_succ n (omega arith)))

-- What the decimal of any number is: one digit, or the decimal of the tenth part and the last digit. It does not matter how many digits there may be, where
-- there may be enough.
digits-enough : (k m n : ℕ) → n < k → n < m → digits k n ≡ digits m n
digits-enough zero m n h g = absurd (omega (arith, h))
digits-enough (suc k) zero n h g = absurd (omega (arith, g))
digits-enough (suc k) (suc m) n h g =
    either_way (ltb n 10)
    (λ t. let small = ltb-true n 10 t in appends.one k n small ∙ sym (appends.one m n small))
    (λ t.
    let large : 10 ≤ n = ltb-false n 10 t in
    appends.more k n large
    ∙ ap (λ (ds : List ℕ). ds ++ ((48 + n % 10) ∷ [])) (digits-enough k m (n / 10) (omega (arith, large, h)) (omega (arith, large, g)))
    ∙ sym (appends.more m n large))

pub decimal_digit : (n : ℕ) → n < 10 → decimal n ≡ (48 + n) ∷ []
unfolding decimal
decimal_digit n h = appends.one n n h

pub decimal-more : (n : ℕ) → 10 ≤ n → decimal n ≡ decimal (n / 10) ++ ((48 + n % 10) ∷ [])
unfolding decimal
decimal-more n h =
    appends.more n n h ∙ ap (λ (ds : List ℕ). ds ++ ((48 + n % 10) ∷ [])) (digits-enough n (suc (n / 10)) (n / 10) (omega (arith, h)) (omega arith))

-- A number below 10 to the power k + 1 has at most k + 1 digits.
pub decimal-length : (k n : ℕ) → n < 10 ^ suc k → length (decimal n) ≤ suc k
decimal-length zero n h = rw (decimal_digit n (omega (arith, h))) (omega arith)
decimal-length (suc k) n h =
    either_way (ltb n 10)
    (λ t. rw (decimal_digit n (ltb-true n 10 t)) (omega arith))
    (λ t.
    let last = (48 + n % 10) ∷ [] in
    rw (decimal-more n (ltb-false n 10 t))
    (omega (arith, length-append (decimal (n / 10)) last, decimal-length k (n / 10) (tenth n (10 ^ suc k) (subst (λ (m : ℕ). n < m) (pow-suc 10 (suc k)) h)))))
  where
    tenth : (n m : ℕ) → n < m * 10 → n / 10 < m
    tenth n m h = omega (arith, h)

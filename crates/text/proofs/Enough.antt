-- "Input of 8,192 bytes or more": no more of standard input is needed to say what is printed than its first 9,218 bytes, two for the length,
-- 1,024 for the description and 8,192 for the input.
use Rattle.std.proofs.Common.{◌≡◌, ℕ, ◌+◌, ◌*◌, ◌≤◌, ◌<◌, List, [], ◌∷◌, length, take, drop, inl, inr, refl, sym, ap, ◌∙◌, arith, length-drop}
use Rattle.std.proofs.lemmas.Bool.{cases_lt}
use Rattle.std.proofs.lemmas.Bool.Decides.{nat_tests}
use Rattle.std.proofs.lemmas.List.{take_all}
use Rattle.std.proofs.Math.ListN.{length-take}
use Rattle.std.proofs.Math.Seq.{take-take}
use Rattle.description.specs.Check.{Meaning, accepted, refused, meaning}
use Rattle.description.specs.Limits.{most_bytes}
use Rattle.rules.specs.Outcome.{most_input, outcome}
use Rattle.rules.proofs.Outcomes.{outcome-refused, outcome-long}
use Rattle.text.specs.Listing.{table_words, listed, listing}

-- two inputs that are too long, whatever is in them
too_long : (v d : ℕ) (desc one other : List ℕ) → most_input < length one → most_input < length other → outcome v d desc one ≡ outcome v d desc other
too_long v d desc one other h g = go (meaning desc) refl
  where
    go : (m : Meaning) → meaning desc ≡ m → outcome v d desc one ≡ outcome v d desc other
    go (refused r) m = outcome-refused v d desc one r m ∙ sym (outcome-refused v d desc other r m)
    go (accepted t) m = outcome-long v d desc one t m h ∙ sym (outcome-long v d desc other t m g)

-- two records of which nothing is missing, and which are read alike
listed-same : (n : ℕ) (one other : List ℕ) → 1024 ≤ length one → 1024 ≤ length other
    → (n ≤ 1024 → outcome table_words table_words (take n one) (drop n one) ≡ outcome table_words table_words (take n other) (drop n other))
    → listed n one ≡ listed n other
unfolding listed most_bytes
listed-same n one other h g same = grind (arith, nat_tests)

module _ (n : ℕ) (bytes : List ℕ) (most : ℕ) (room : most_bytes + most_input < most) where
  cut : most < length bytes → listed n (take most bytes) ≡ listed n bytes
  unfolding most_bytes most_input
  cut long =
      let front : length (take most bytes) ≡ most = omega (arith, length-take most bytes) in
      listed-same n (take most bytes) bytes (omega (arith, room)) (omega (arith, room))
      (λ few.
      ap (λ (desc : List ℕ). outcome table_words table_words desc (drop n (take most bytes))) (take-take n most bytes (omega (arith, room)))
      ∙ too_long table_words table_words (take n bytes) (drop n (take most bytes)) (drop n bytes)
      (omega (arith, room, length-drop n (take most bytes))) (omega (arith, room, length-drop n bytes)))

  listed-enough : listed n (take most bytes) ≡ listed n bytes
  listed-enough = elim (cases_lt most (length bytes)) [ inl more ↦ cut more | inr all ↦ ap (listed n) (take_all most bytes all) ]

pub enough : (bytes : List ℕ) → listing (take 9218 bytes) ≡ listing bytes
unfolding listing most_bytes most_input
enough [] = refl
enough (high ∷ []) = refl
enough (high ∷ low ∷ bytes) = listed-enough (256 * high + low) bytes 9216 (omega arith)

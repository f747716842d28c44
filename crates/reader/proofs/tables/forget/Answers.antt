-- What is cleared lies between where the two entries begin, or the table's end.
use Rattle.std.proofs.Common.{rules, ◌≡◌, ℕ, ◌-◌, ◌≤◌, min, List, ◌++◌, length, take, drop, replicate, ap, ◌∙◌, ap₂, mul-le-mul_left, arith}
use borrow.Rule.Slice.PartMut.{mid_of, put_mid, mid_len, Post-is}
use Rattle.reader.specs.Inner.Windows.{forgotten}
use Rattle.reader.proofs.tables.forget.Goals as goal
use Rattle.reader.proofs.tables.forget.Goals.{After-first_word-to}

-- the one entry begins no later than the other
module _ (c : After-first_word-to) where
  order : c.first_word-from.result ≤ c.first_word-to.result
  order =
      omega (arith, c.first_word-from.ensures, c.first_word-to.ensures, mul-le-mul_left c.args.words c.requires.1)

-- the part that came back is clear
cleared : (xs ys : List ℕ) (a b from to : ℕ) → from ≡ min a (length xs) → to ≡ min b (length xs) → from ≤ to
    → ys ≡ replicate (length (mid_of from (to - from) xs)) 0 → put_mid from (to - from) xs ys ≡ forgotten xs a b
unfolding forgotten
cleared xs ys a b from to f t h e =
    ap₂ (λ (part after : List ℕ). take from xs ++ (part ++ after))
    (e ∙ ap (λ (n : ℕ). replicate n 0) (mid_len from to xs (omega arith)))
    (Post-is from to xs h)
    ∙ ap₂ (λ (m n : ℕ). take m xs ++ (replicate (n - m) 0 ++ drop n xs)) f t

pub returns : goal.returns
returns c =
    cleared _ _ _ _ _ _ c.first_word-from.ensures c.first_word-to.ensures (order (goal.at.returns c).After-first_word-to) (search rules)

-- A row of the input with other bits in the place of some of them.
use Prim.Native.Nat.{ℕ, ◌+◌, ◌-◌, ◌≤◌, ◌<◌}
use mathlib.Core.List.{List, ◌++◌}
use mathlib.Core.Path.{◌≡◌, ap, ◌∙◌}
use native.Mathlib.Omega.{arith}
use lib.ListN.{length, get_or, length-append, get_or-append}
use lib.Seq.{get_or-append-add}
use Rattle.bits.specs.Bits.{bit}
use Rattle.writing.proofs.Rows.{row, row-length, row_at, AreBits, bits_append, row-bits}

-- `w` bits from `begin` on are others, and `rest` follow them.
unfoldable pub spliced : List ℕ → ℕ → List ℕ → ℕ → List ℕ
spliced input begin others rest = row input 0 begin ++ (others ++ row input (begin + length others) rest)

-- an item of the second of two lists
second_at : (xs ys : List ℕ) (k : ℕ) → length xs ≤ k → get_or (xs ++ ys) k 0 ≡ get_or ys (k - length xs) 0
second_at xs ys k h =
    let all : k ≡ length xs + (k - length xs) = omega arith in
    ap (λ (j : ℕ). get_or (xs ++ ys) j 0) all ∙ get_or-append-add xs ys (k - length xs) 0

module _ (input : List ℕ) (begin : ℕ) (others : List ℕ) (rest : ℕ) where
  pub spliced-length : length (spliced input begin others rest) ≡ begin + length others + rest
  unfolding spliced
  spliced-length = simp (length-append, row-length) (omega arith)

  pub spliced-bits : AreBits others → AreBits (spliced input begin others rest)
  unfolding spliced
  spliced-bits f =
      bits_append (row input 0 begin) (others ++ row input (begin + length others) rest) (row-bits input 0 begin)
      (bits_append others (row input (begin + length others) rest) f (row-bits input (begin + length others) rest))

  pub spliced-before : (k : ℕ) → k < begin → get_or (spliced input begin others rest) k 0 ≡ bit input k
  unfolding spliced
  spliced-before k h =
      get_or-append (row input 0 begin) (others ++ row input (begin + length others) rest) 0 k (omega (arith, row-length input 0 begin))
      ∙ row_at input 0 begin k h
      ∙ ap (bit input) (omega arith)

  -- what follows the first part
  past : (k : ℕ) → begin ≤ k → get_or (spliced input begin others rest) k 0 ≡ get_or (others ++ row input (begin + length others) rest) (k - begin) 0
  unfolding spliced
  past k h =
      second_at (row input 0 begin) (others ++ row input (begin + length others) rest) k (omega (arith, row-length input 0 begin))
      ∙ ap (λ (j : ℕ). get_or (others ++ row input (begin + length others) rest) (k - j) 0) (row-length input 0 begin)

  pub spliced-inside : (k : ℕ) → k < length others → get_or (spliced input begin others rest) (begin + k) 0 ≡ get_or others k 0
  spliced-inside k h =
      let at : begin + k - begin ≡ k = omega arith in
      past (begin + k) (omega arith)
      ∙ ap (λ (j : ℕ). get_or (others ++ row input (begin + length others) rest) j 0) at
      ∙ get_or-append others (row input (begin + length others) rest) 0 k h

  pub spliced-after : (k : ℕ) → begin + length others ≤ k → k < begin + length others + rest → get_or (spliced input begin others rest) k 0 ≡ bit input k
  spliced-after k h l =
      past k (omega arith)
      ∙ second_at others (row input (begin + length others) rest) (k - begin) (omega arith)
      ∙ row_at input (begin + length others) rest (k - begin - length others) (omega arith)
      ∙ ap (bit input) (omega arith)

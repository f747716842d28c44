-- 01's table of kinds: how many bytes a body has, which of its fields are listed, and the node that it says.
use Rattle.std.specs.Prelude.{ℕ, ◌+◌, ◌*◌, Bool, true, cond, ◌&&◌, ◌||◌, List, [], ◌∷◌, eqb, leb, ltb, length, get_or}
use Rattle.bits.specs.Bits.{number}
use Rattle.bits.specs.Whole.{twos_complement}
use Rattle.description.specs.Nodes.{Relation, equal, not_equal, less, at_most, greater, at_least}
use Rattle.description.specs.Nodes.{Operator, add, subtract, Operand, constant, bound}
use Rattle.description.specs.Nodes.{Node, unit, bottom, bits, signed, then, bind, either, both, where', sequence, compute, absorb, scan}

-- Byte i of a description.
unfoldable pub byte : List ℕ → ℕ → ℕ
byte desc i = get_or desc i 0

-- "width 1 to 32"
unfoldable pub is_width : ℕ → Bool
is_width w = leb 1 w && leb w 32

-- "width 8, 16 or 32"
unfoldable pub is_signed_width : ℕ → Bool
is_signed_width w = eqb w 8 || eqb w 16 || eqb w 32

-- "Relations 0 to 5: equal, not equal, less, at most, greater, at least."
unfoldable pub relations : List Relation
relations = equal ∷ not_equal ∷ less ∷ at_most ∷ greater ∷ at_least ∷ []

-- Whether a byte is listed as a relation, and the relation that it is listed as.
unfoldable pub is_relation : ℕ → Bool
is_relation r = ltb r (length relations)

unfoldable pub relation : ℕ → Relation
relation r = get_or relations r equal

-- "Operators: 0 add, 1 subtract."
unfoldable pub operators : List Operator
operators = add ∷ subtract ∷ []

-- Whether a byte is listed as an operator, and the operator that it is listed as.
unfoldable pub is_operator : ℕ → Bool
is_operator f = ltb f (length operators)

unfoldable pub operator : ℕ → Operator
operator f = get_or operators f add

-- "An operand is five bytes: 00 and a 32-bit two's complement constant, or 01, three zero bytes and k". "Words are big endian."
-- Whether the five bytes from i on are one.
unfoldable pub is_operand : List ℕ → ℕ → Bool
is_operand desc i =
    eqb (byte desc i) 0
    || (eqb (byte desc i) 1 && eqb (byte desc (i + 1)) 0 && eqb (byte desc (i + 2)) 0 && eqb (byte desc (i + 3)) 0)

-- The operand that such five bytes say.
unfoldable pub operand : List ℕ → ℕ → Operand
operand desc i =
    cond (eqb (byte desc i) 0)
    (constant (twos_complement 32 (number desc (8 * (i + 1)) 32)))
    (bound (byte desc (i + 4)))

-- A row of the table.
pub record Row : Type 0 where
  -- "body bytes"
  pub bytes : ℕ
  -- of a body that begins at byte i of a description: its width, relation, operator and operands are listed
  pub listed : List ℕ → ℕ → Bool
  -- and the node that it says
  pub node : List ℕ → ℕ → Node

row : ℕ → (List ℕ → ℕ → Bool) → (List ℕ → ℕ → Node) → Row
row bytes listed node = record { bytes = bytes; listed = listed; node = node }

-- a body whose every byte is a child, or that is empty
free : List ℕ → ℕ → Bool
free d i = true

-- the row of kind 00
unfoldable pub unit_row : Row
unfolding row free
unit_row = row 0 free (λ d i. unit)

-- The rows of kinds 00 to 0C, in their order.
unfoldable pub kinds : List Row
unfolding row free
kinds =
    unit_row  -- 00 unit
    ∷ row 0 free (λ d i. bottom)  -- 01 bottom
    ∷ row 1 (λ d i. is_width (byte d i)) (λ d i. bits (byte d i))  -- 02 bits
    ∷ row 1 (λ d i. is_signed_width (byte d i)) (λ d i. signed (byte d i))  -- 03 signed
    ∷ row 2 free (λ d i. then (byte d i) (byte d (i + 1)))  -- 04 then
    ∷ row 2 free (λ d i. bind (byte d i) (byte d (i + 1)))  -- 05 bind
    ∷ row 2 free (λ d i. either (byte d i) (byte d (i + 1)))  -- 06 either
    ∷ row 2 free (λ d i. both (byte d i) (byte d (i + 1)))  -- 07 both
    ∷ row 7  -- 08 where
    (λ d i. is_relation (byte d (i + 1)) && is_operand d (i + 2))
    (λ d i. where' (byte d i) (relation (byte d (i + 1))) (operand d (i + 2)))
    ∷ row 8  -- 09 sequence
    (λ d i. is_operand d (i + 3))
    (λ d i. sequence (byte d i) (byte d (i + 1)) (byte d (i + 2)) (operand d (i + 3)))
    ∷ row 12  -- 0A compute
    (λ d i. is_width (byte d i) && is_operator (byte d (i + 1)) && is_operand d (i + 2) && is_operand d (i + 7))
    (λ d i. compute (byte d i) (operator (byte d (i + 1))) (operand d (i + 2)) (operand d (i + 7)))
    ∷ row 1 free (λ d i. absorb (byte d i))  -- 0B absorb
    ∷ row 1 free (λ d i. scan (byte d i))  -- 0C scan
    ∷ []

-- The row of a kind's byte; of an unknown kind, unit's.
unfoldable pub row_of : ℕ → Row
row_of kind = get_or kinds kind unit_row

-- The outcome of a whole call of the writer, for every description, value table, count and buffer length.
use Rattle.std.specs.Prelude.{ℕ, min, true, false, ◌||◌, List, Result, Ok, Err, ltb, length, replicate}
use Rattle.description.specs.Check.{accepted, refused, meaning}
use Rattle.description.specs.Refusals.{refusal_number, refusal_node}
use Rattle.rules.specs.Outcome.{most_input}
use Rattle.writing.specs.Bits.{bytes_for, packed}
use Rattle.writing.specs.Entries.{holds, some_wrong, bits_from}
use Rattle.writing.specs.Fields.{fields_of, some_unwritable}
use Rattle.writing.specs.declared.Refused.{Refused}
use Rattle.writing.specs.declared.Refused.TheVariants.{BadDescription, NotWritable, WrongTable, NoSpace}

-- The answer, and every byte of the buffer afterwards.
pub record Outcome : Type 0 where
  pub answer : Result ℕ Refused
  pub buffer : List ℕ

-- What a caller has of a call.
unfoldable pub given : Result ℕ Refused → List ℕ → Outcome
given a buffer = record { answer = a; buffer = buffer }

-- A call that is lent a buffer of n bytes.
module _ (n : ℕ) where
  -- "A refusal ... zeroes the whole buffer."
  unfoldable pub refusing : Refused → Outcome
  refusing r = record { answer = Err r; buffer = replicate n 0 }

  -- "16, the bytes exceed the buffer or 8,191". "Success answers the number of bits without the padding".
  unfoldable pub writing : List ℕ → Outcome
  writing bits =
      elim (ltb (min n most_input) (bytes_for (length bits))) [
        | true ↦ refusing NoSpace
        | false ↦ record { answer = Ok (length bits); buffer = packed n bits }
      ]

  -- "Refusals, after 1 to 11 and in this order: 14 ... 15 ... 16".
  unfoldable pub outcome : (desc values : List ℕ) → (count : ℕ) → Outcome
  outcome desc values count =
      let fields = fields_of desc in
      elim (meaning desc) [
        | refused r ↦ refusing (BadDescription r)
        | accepted tree ↦
            elim (some_unwritable fields) [
              | true ↦ refusing NotWritable
              | false ↦
                  elim (ltb (holds values) count || some_wrong values fields 0 count) [
                    | true ↦ refusing WrongTable
                    | false ↦ writing (bits_from values fields 0 count)
                  ]
            ]
      ]

-- The three numbers that a call returns.
pub record Stated : Type 0 where
  pub refusal : ℕ
  pub node : ℕ
  pub bits : ℕ

-- "A refusal answers 0"; "all three give node 0".
unfoldable pub stated : Result ℕ Refused → Stated
stated (Ok n) = record { refusal = 0; node = 0; bits = n }
stated (Err (BadDescription r)) = record { refusal = refusal_number r; node = refusal_node r; bits = 0 }
stated (Err NotWritable) = record { refusal = 14; node = 0; bits = 0 }
stated (Err WrongTable) = record { refusal = 15; node = 0; bits = 0 }
stated (Err NoSpace) = record { refusal = 16; node = 0; bits = 0 }

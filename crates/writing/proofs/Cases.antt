-- The writer at work: both theorems on case A, and cases of our own, each computed, that shut out a wrong answer.
use Prim.Native.Nat.{ℕ}
use mathlib.Core.Bool.{false}
use mathlib.Core.List.{List, [], ◌∷◌, map}
use mathlib.Core.Logic.{inl, inr}
use mathlib.Core.Path.{◌≡◌, refl}
use lib.Dec.{lit≤, lit<}
use lib.ListN.{replicate}
use Rattle.std.specs.Prelude.{Ok}
use Rattle.rules.specs.Outcome as reader
use Rattle.promises.specs.Table.{entry_at}
use Rattle.promises.proofs.Cases.{counters, turned, turned-read, cut}
use Rattle.writing.specs.Fields.{fields_of, some_unwritable}
use Rattle.writing.specs.Outcome.{outcome}
use Rattle.writing.proofs.Evaluate.{Evaluated, evaluated}
use Rattle.writing.proofs.Replaced.{Changed, replaced-number}
use Rattle.writing.proofs.Replacing.{replaced}
use Rattle.writing.proofs.RoundTrip.{Returned, round_trip}

-- Case A, where the counter turned: 5 entries, 32 bits.
abbrev values : List ℕ
values = (reader.outcome 20 20 counters turned).values

abbrev descriptors : List ℕ
descriptors = (reader.outcome 20 20 counters turned).descriptors

clean : (entry_at values descriptors 0).errors ≡ 0
unfolding evaluated entry_at
clean = refl

writable : some_unwritable (fields_of counters) ≡ false
unfolding evaluated
writable = refl

-- it comes back, by the theorem,
turned-back : Returned 4 counters turned values 5 32
unfolding evaluated
turned-back = round_trip 4 20 20 counters turned 5 32 turned-read clean writable (lit≤ tt)

-- and computed
turned-bytes : outcome 4 counters values 5 ≡ record { answer = Ok 32; buffer = turned }
unfolding evaluated
turned-bytes = refl

-- with 4,660 for the second counter, entry 3, by the theorem,
second-changed : Changed 4 counters turned values descriptors 5 32 3 16 0x1234
unfolding evaluated
second-changed = replaced-number 4 20 20 counters turned 5 32 turned-read clean writable (lit≤ tt) 3 16 0x1234 (lit< tt) (inl refl) refl

-- and computed
second-bytes : outcome 4 counters (replaced values 3 0x1234) 5 ≡ record { answer = Ok 32; buffer = 0xff ∷ 0xfa ∷ 0x12 ∷ 0x34 ∷ [] }
unfolding evaluated
second-bytes = refl

-- A sequence of signed bytes with 4 bits between them: -1, 3, -128, 12, 0, in 6 entries.
abbrev numbers : List ℕ
numbers = 0x03 ∷ 0x08 ∷ 0x02 ∷ 0x04 ∷ 0x01 ∷ 0x09 ∷ 0x00 ∷ 0x01 ∷ 0x02 ∷ 0x00 ∷ 0xff ∷ 0xff ∷ 0xff ∷ 0xff ∷ []

abbrev three : List ℕ
three = 0xff ∷ 0x38 ∷ 0x0c ∷ 0x00 ∷ []

abbrev three-values : List ℕ
three-values = (reader.outcome 24 24 numbers three).values

abbrev three-descriptors : List ℕ
three-descriptors = (reader.outcome 24 24 numbers three).descriptors

-- the second of them, entry 3, as -2: by the theorem, and computed, its bits stand in two bytes whose others are kept
middle_changed : Changed 4 numbers three three-values three-descriptors 6 32 3 8 0xfffffffe
unfolding evaluated entry_at
middle_changed = replaced-number 4 24 24 numbers three 6 32 refl refl refl (lit≤ tt) 3 8 0xfffffffe (lit< tt) (inr refl) refl

middle_bytes : outcome 4 numbers (replaced three-values 3 0xfffffffe) 6 ≡ record { answer = Ok 32; buffer = 0xff ∷ 0x3f ∷ 0xec ∷ 0x00 ∷ [] }
unfolding evaluated
middle_bytes = refl

-- A call with a buffer of n bytes, and what must come of it.
record Case : Type 0 where
  n : ℕ
  description : List ℕ
  values : List ℕ
  count : ℕ
  expected : Evaluated

-- so many bits, in these bytes
writes : (n : ℕ) → (description values : List ℕ) → (count bits : ℕ) → List ℕ → Case
writes n description values count bits buffer =
    record {
      n = n;
      description = description;
      values = values;
      count = count;
      expected = record { states = record { refusal = 0; node = 0; bits = bits }; buffer = buffer };
    }

-- a refusal's number and node: "A refusal answers 0", and "zeroes the whole buffer"
refuses : (n : ℕ) → (description values : List ℕ) → (count number node : ℕ) → Case
refuses n description values count number node =
    record {
      n = n;
      description = description;
      values = values;
      count = count;
      expected = record { states = record { refusal = number; node = node; bits = 0 }; buffer = replicate n 0 };
    }

-- an entry of a node with its number; detail and size are words that nobody looks at
entry : (node number : ℕ) → List ℕ → List ℕ
entry node number rest = node ∷ number ∷ 0xdead ∷ 0xbeef ∷ rest

-- 4 bits, then 3
four_three : List ℕ
four_three = 0x02 ∷ 0x04 ∷ 0x02 ∷ 0x03 ∷ 0x04 ∷ 0x00 ∷ 0x01 ∷ []

-- a signed byte, and a byte
signed-byte : List ℕ
signed-byte = 0x03 ∷ 0x08 ∷ []

byte : List ℕ
byte = 0x02 ∷ 0x08 ∷ []

-- a byte that is 2A, or else a unit
tag : List ℕ
tag = 0x02 ∷ 0x08 ∷ 0x08 ∷ 0x00 ∷ 0x00 ∷ 0x00 ∷ 0x00 ∷ 0x00 ∷ 0x00 ∷ 0x2a ∷ 0x00 ∷ 0x06 ∷ 0x01 ∷ 0x02 ∷ []

-- a byte, absorbed
absorbed : List ℕ
absorbed = 0x02 ∷ 0x08 ∷ 0x0b ∷ 0x00 ∷ []

cases : List Case
cases =
    -- padded at the end alone: 1010 and 101 are seven bits of one byte
    writes 1 four_three (entry 2 0 (entry 0 10 (entry 1 5 []))) 3 7 (0xaa ∷ [])
    -- the bytes after the written ones are 0
    ∷ writes 3 four_three (entry 0 10 (entry 1 5 [])) 2 7 (0xaa ∷ 0x00 ∷ 0x00 ∷ [])
    -- numbers stand in the order of the entries, and not of the nodes, and a node may have many
    ∷ writes 2 four_three (entry 1 5 (entry 0 10 (entry 1 5 []))) 3 10 (0xb5 ∷ 0x40 ∷ [])
    -- -1 in 8 bits is the word FFFFFFFF, and written FF
    ∷ writes 1 signed-byte (entry 0 0xffffffff []) 1 8 (0xff ∷ [])
    -- so is -128, and 127 is itself
    ∷ writes 2 signed-byte (entry 0 0xffffff80 (entry 0 127 [])) 2 16 (0x80 ∷ 0x7f ∷ [])
    -- 255 is no signed number of 8 bits, nor is 128, nor -129
    ∷ refuses 1 signed-byte (entry 0 255 []) 1 15 0
    ∷ refuses 1 signed-byte (entry 0 128 []) 1 15 0
    ∷ refuses 1 signed-byte (entry 0 0xffffff7f []) 1 15 0
    -- 2^w is no number of w bits
    ∷ writes 1 byte (entry 0 255 []) 1 8 (0xff ∷ [])
    ∷ refuses 1 byte (entry 0 256 []) 1 15 0
    ∷ refuses 1 four_three (entry 0 16 []) 1 15 0
    -- 32 bits, unsigned and signed
    ∷ writes 4 (0x02 ∷ 0x20 ∷ []) (entry 0 0xfedcba98 []) 1 32 (0xfe ∷ 0xdc ∷ 0xba ∷ 0x98 ∷ [])
    ∷ writes 4 (0x03 ∷ 0x20 ∷ []) (entry 0 0x80000000 []) 1 32 (0x80 ∷ 0x00 ∷ 0x00 ∷ 0x00 ∷ [])
    -- 14 for each of both, absorb and scan, also where no entry is of it, and before 15
    ∷ refuses 1 (0x02 ∷ 0x04 ∷ 0x02 ∷ 0x08 ∷ 0x07 ∷ 0x00 ∷ 0x01 ∷ []) (entry 0 1 []) 1 14 0
    ∷ refuses 1 absorbed (entry 0 1 []) 1 14 0
    ∷ refuses 1 (0x02 ∷ 0x08 ∷ 0x0c ∷ 0x00 ∷ []) (entry 0 1 []) 1 14 0
    ∷ refuses 1 absorbed [] 5 14 0
    -- 1 to 10 before 14: an empty description, and one with an absorb that is never named
    ∷ refuses 2 [] (entry 0 1 []) 1 1 0
    ∷ refuses 2 (0x02 ∷ 0x08 ∷ 0x0b ∷ 0x00 ∷ 0x00 ∷ []) (entry 0 1 []) 1 9 1
    -- a table of 4 entries has no fifth, and three words more make none
    ∷ refuses 8 byte (entry 0 1 (entry 0 2 (entry 0 3 (entry 0 4 [])))) 5 15 0
    ∷ refuses 8 byte (entry 0 1 (entry 0 2 (entry 0 3 (entry 0 4 (0 ∷ 5 ∷ 0 ∷ []))))) 5 15 0
    ∷ writes 4 byte (entry 0 1 (entry 0 2 (entry 0 3 (entry 0 4 (0 ∷ 5 ∷ 0 ∷ []))))) 4 32 (0x01 ∷ 0x02 ∷ 0x03 ∷ 0x04 ∷ [])
    -- node 1 is not in a description of one node
    ∷ refuses 1 byte (entry 1 0 []) 1 15 0
    -- a wrong number in the last entry comes before a buffer that is too short
    ∷ refuses 0 byte (entry 0 1 (entry 0 256 [])) 2 15 0
    -- one byte short: 16 bits, and 9
    ∷ refuses 1 byte (entry 0 1 (entry 0 2 [])) 2 16 0
    ∷ refuses 1 (0x02 ∷ 0x09 ∷ []) (entry 0 1 []) 1 16 0
    -- no entry: nothing is written
    ∷ writes 3 byte (entry 7 256 []) 0 0 (0x00 ∷ 0x00 ∷ 0x00 ∷ [])
    -- the words past the count are not looked at
    ∷ writes 1 byte (entry 0 42 (entry 7 256 [])) 1 8 (0x2a ∷ [])
    -- a read that failed has number 0, and is written as zero bits: case A over FF FA 00
    ∷ writes 4 counters (reader.outcome 20 20 counters cut).values 5 32 (0xff ∷ 0xfa ∷ 0x00 ∷ 0x00 ∷ [])
    -- a where, a compute, a unit and an either are written as nothing, whatever their numbers
    ∷ writes 1 tag (entry 3 0 (entry 1 0xffffffff (entry 0 0x2a []))) 3 8 (0x2a ∷ [])
    ∷ writes 1 tag (entry 3 0xffffffff (entry 2 0xffffffff [])) 2 0 (0x00 ∷ [])
    ∷ writes 0 counters (entry 2 0xffffffff []) 1 0 []
    ∷ []

found : Case → Evaluated
found c = evaluated c.n c.description c.values c.count

-- The theorem: of each case, what is found is what is expected.
cases_hold : map found cases ≡ map (λ c. c.expected) cases
unfolding evaluated found cases writes refuses entry four_three signed-byte byte tag absorbed
cases_hold = refl

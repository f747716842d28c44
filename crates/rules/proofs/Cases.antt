-- The cases of 01 marked P, and cases of our own, as one list under one theorem: the outcome of each is the expected one.
-- Where 01 gives only part of a reading, the whole outcome stands here: all but case A, of which 01 gives every line, and the refusals.
use Prim.Native.Nat.{ℕ, ◌-◌}
use mathlib.Core.List.{List, [], ◌∷◌, ◌++◌, map}
use mathlib.Core.Path.{◌≡◌, refl}
use lib.ListN.{length, replicate}
use Rattle.rules.proofs.Evaluate.{Evaluated, evaluated}

-- A call: a description over an input, with tables of so many words, and what must come of it.
record Case : Type 0 where
  description : List ℕ
  input : List ℕ
  values : ℕ
  descriptors : ℕ
  expected : Evaluated

-- A line of the listing: the four value words and the four descriptor words of an entry.
record Line : Type 0 where
  value : List ℕ
  descriptor : List ℕ

line : (node begin end code errors number detail size : ℕ) → Line
line node begin end code errors number detail size =
    record { value = node ∷ number ∷ detail ∷ size ∷ []; descriptor = begin ∷ end ∷ code ∷ errors ∷ [] }

joined : List (List ℕ) → List ℕ
joined [] = []
joined (ws ∷ rest) = ws ++ joined rest

padded : ℕ → List ℕ → List ℕ
padded n ws = ws ++ replicate (n - length ws) 0

-- "ok", count and end, then the lines
reads : (description input : List ℕ) → (values descriptors : ℕ) → (count end : ℕ) → List Line → Case
reads description input values descriptors count end lines =
    record {
      description = description;
      input = input;
      values = values;
      descriptors = descriptors;
      expected =
          record {
            states = record { refusal = 0; node = 0; count = count; end = end };
            values = padded values (joined (map (λ l. l.value) lines));
            descriptors = padded descriptors (joined (map (λ l. l.descriptor) lines));
          };
    }

-- "refused", number and node
refuses : (description input : List ℕ) → (values descriptors : ℕ) → (number node : ℕ) → Case
refuses description input values descriptors number node =
    record {
      description = description;
      input = input;
      values = values;
      descriptors = descriptors;
      expected =
          record {
            states = record { refusal = number; node = node; count = 0; end = 0 };
            values = replicate values 0;
            descriptors = replicate descriptors 0;
          };
    }

-- two counters of 16 bits and the use between them: bits 16, bits 16, compute 16 subtract, bind, bind
counters : List ℕ
counters = 0x02 ∷ 0x10 ∷ 0x02 ∷ 0x10 ∷ 0x0a ∷ 0x10 ∷ 0x01 ∷ 0x01 ∷ 0x00 ∷ 0x00 ∷ 0x00 ∷ 0x00 ∷ 0x01 ∷ 0x00 ∷ 0x00 ∷ 0x00 ∷ 0x01 ∷ 0x05 ∷ 0x01 ∷ 0x02 ∷ 0x05 ∷ 0x00 ∷ 0x03 ∷ []

-- 8 bits that are 2A, or else 4 bits
either_of : List ℕ
either_of = 0x02 ∷ 0x08 ∷ 0x08 ∷ 0x00 ∷ 0x00 ∷ 0x00 ∷ 0x00 ∷ 0x00 ∷ 0x00 ∷ 0x2a ∷ 0x02 ∷ 0x04 ∷ 0x06 ∷ 0x01 ∷ 0x02 ∷ []

-- 5 bits, a unit between them, no terminator and no count
sequence_of : List ℕ
sequence_of = 0x02 ∷ 0x05 ∷ 0x00 ∷ 0x01 ∷ 0x09 ∷ 0x00 ∷ 0x01 ∷ 0x02 ∷ 0x00 ∷ 0xff ∷ 0xff ∷ 0xff ∷ 0xff ∷ []

-- the first 8 bits that are 2A
scan_for : List ℕ
scan_for = 0x02 ∷ 0x08 ∷ 0x08 ∷ 0x00 ∷ 0x00 ∷ 0x00 ∷ 0x00 ∷ 0x00 ∷ 0x00 ∷ 0x2a ∷ 0x0c ∷ 0x01 ∷ []

cases : List Case
cases =
    -- P: case A, whole: the counter turned from 65,530 past 65,535 to 4, and ten pulses were used
    reads counters (0xff ∷ 0xfa ∷ 0x00 ∷ 0x04 ∷ []) 24 22 5 32
    (line 4 0 32 0 0 0 0 5
    ∷ line 0 0 16 0 0 65530 0 1
    ∷ line 3 16 32 0 0 0 0 3
    ∷ line 1 16 32 0 0 4 0 1
    ∷ line 2 32 32 0 0 10 0 1
    ∷ [])
    -- P: over FF FF 00 00, use 1
    ∷ reads counters (0xff ∷ 0xff ∷ 0x00 ∷ 0x00 ∷ []) 20 20 5 32
    (line 4 0 32 0 0 0 0 5
    ∷ line 0 0 16 0 0 65535 0 1
    ∷ line 3 16 32 0 0 0 0 3
    ∷ line 1 16 32 0 0 0 0 1
    ∷ line 2 32 32 0 0 1 0 1
    ∷ [])
    -- P: over 00 00 FF FF, use 65,535
    ∷ reads counters (0x00 ∷ 0x00 ∷ 0xff ∷ 0xff ∷ []) 20 20 5 32
    (line 4 0 32 0 0 0 0 5
    ∷ line 0 0 16 0 0 0 0 1
    ∷ line 3 16 32 0 0 0 0 3
    ∷ line 1 16 32 0 0 65535 0 1
    ∷ line 2 32 32 0 0 65535 0 1
    ∷ [])
    -- P: over FF FA 00, node 1 fails at 16, with 8 bits missing; use reads 6 with 0 errors, root 1 error, fail, end 16
    ∷ reads counters (0xff ∷ 0xfa ∷ 0x00 ∷ []) 20 20 5 16
    (line 4 0 16 2 1 0 0 5
    ∷ line 0 0 16 0 0 65530 0 1
    ∷ line 3 16 16 2 1 0 0 3
    ∷ line 1 16 16 2 1 0 8 1
    ∷ line 2 16 16 0 0 6 0 1
    ∷ [])
    -- P: the either over 2A: detail 1, three entries, end 8
    ∷ reads either_of (0x2a ∷ []) 12 12 3 8
    (line 3 0 8 0 0 0 1 3
    ∷ line 1 0 8 0 0 42 0 2
    ∷ line 0 0 8 0 0 42 0 1
    ∷ [])
    -- P: over 2B: detail 2, two entries, number 2, end 4
    ∷ reads either_of (0x2b ∷ []) 12 12 2 4
    (line 3 0 4 0 0 0 2 2
    ∷ line 2 0 4 0 0 2 0 1
    ∷ [])
    -- P: the sequence over 00: two elements, 1 error, err, end 5; of the second 2 bits are missing
    ∷ reads sequence_of (0x00 ∷ []) 16 16 4 5
    (line 3 0 5 1 1 0 2 4
    ∷ line 0 0 5 0 0 0 0 1
    ∷ line 1 5 5 0 0 0 0 1
    ∷ line 0 5 5 2 1 0 2 1
    ∷ [])
    -- P: over no bytes: empty, ok, one entry
    ∷ reads sequence_of [] 4 4 1 0
    (line 3 0 0 0 0 0 0 1
    ∷ [])
    -- P: the scan over 00 2A: skipped 8, 1 error, end 16
    ∷ reads scan_for (0x00 ∷ 0x2a ∷ []) 12 12 3 16
    (line 2 0 16 1 1 0 8 3
    ∷ line 1 8 16 0 0 42 0 2
    ∷ line 0 8 16 0 0 42 0 1
    ∷ [])
    -- P: 03 08 over FF: number word 4,294,967,295
    ∷ reads (0x03 ∷ 0x08 ∷ []) (0xff ∷ []) 4 4 1 8
    (line 0 0 8 0 0 4294967295 0 1
    ∷ [])
    -- P: 02 20 accepted; here over a full word
    ∷ reads (0x02 ∷ 0x20 ∷ []) (0xff ∷ 0xff ∷ 0xff ∷ 0xff ∷ []) 4 4 1 32
    (line 0 0 32 0 0 4294967295 0 1
    ∷ [])
    -- P: 02 21 refused 5
    ∷ refuses (0x02 ∷ 0x21 ∷ []) (0xff ∷ 0xff ∷ 0xff ∷ 0xff ∷ 0xff ∷ []) 4 4 5 0
    -- P: 00 00 refused 9, node 0
    ∷ refuses (0x00 ∷ 0x00 ∷ []) [] 4 4 9 0
    -- P: 00 04 00 00 refused 7, node 1
    ∷ refuses (0x00 ∷ 0x04 ∷ 0x00 ∷ 0x00 ∷ []) [] 4 4 7 1
    -- 5 bits are missing of a signed number of 16 that begins at bit 5
    ∷ reads (0x02 ∷ 0x05 ∷ 0x03 ∷ 0x10 ∷ 0x04 ∷ 0x00 ∷ 0x01 ∷ []) (0xff ∷ 0xff ∷ []) 12 12 3 5
    (line 2 0 5 2 1 0 0 3
    ∷ line 0 0 5 0 0 31 0 1
    ∷ line 1 5 5 2 1 0 5 1
    ∷ [])
    -- of a failed read an either keeps the entry of the part that it takes, with 4 bits missing; a scan and an absorb keep none
    ∷ reads (0x02 ∷ 0x10 ∷ 0x02 ∷ 0x0c ∷ 0x06 ∷ 0x00 ∷ 0x01 ∷ 0x02 ∷ 0x10 ∷ 0x0c ∷ 0x03 ∷ 0x02 ∷ 0x10 ∷ 0x0b ∷ 0x05 ∷ 0x04 ∷ 0x04 ∷ 0x06 ∷ 0x04 ∷ 0x02 ∷ 0x07 ∷ []) (0x2a ∷ []) 24 24 6 0
    (line 8 0 0 2 2 0 0 6
    ∷ line 2 0 0 2 1 0 2 2
    ∷ line 1 0 0 2 1 0 4 1
    ∷ line 7 0 0 2 2 0 0 3
    ∷ line 4 0 0 2 1 0 0 1
    ∷ line 6 0 0 2 1 0 0 1
    ∷ [])
    -- then adds at most one error from each side: the first side has 2, the root 1
    ∷ reads (0x01 ∷ 0x01 ∷ 0x04 ∷ 0x00 ∷ 0x01 ∷ 0x00 ∷ 0x04 ∷ 0x02 ∷ 0x03 ∷ []) [] 20 20 5 0
    (line 4 0 0 2 1 0 0 5
    ∷ line 2 0 0 2 2 0 0 3
    ∷ line 0 0 0 2 1 0 0 1
    ∷ line 1 0 0 2 1 0 0 1
    ∷ line 3 0 0 0 0 0 0 1
    ∷ [])
    -- a round is the separator and the element: an element that stands still ends nothing while the separator moves
    ∷ reads (0x02 ∷ 0x08 ∷ 0x08 ∷ 0x00 ∷ 0x00 ∷ 0x00 ∷ 0x00 ∷ 0x00 ∷ 0x00 ∷ 0x2a ∷ 0x00 ∷ 0x06 ∷ 0x01 ∷ 0x02 ∷ 0x02 ∷ 0x08 ∷ 0x01 ∷ 0x09 ∷ 0x03 ∷ 0x04 ∷ 0x05 ∷ 0x00 ∷ 0xff ∷ 0xff ∷ 0xff ∷ 0xff ∷ []) (0x2a ∷ 0x00 ∷ 0x00 ∷ 0x00 ∷ []) 64 64 13 32
    (line 6 0 32 0 0 0 4 13
    ∷ line 3 0 8 0 0 0 1 3
    ∷ line 1 0 8 0 0 42 0 2
    ∷ line 0 0 8 0 0 42 0 1
    ∷ line 4 8 16 0 0 0 0 1
    ∷ line 3 16 16 0 0 0 2 2
    ∷ line 2 16 16 0 0 0 0 1
    ∷ line 4 16 24 0 0 0 0 1
    ∷ line 3 24 24 0 0 0 2 2
    ∷ line 2 24 24 0 0 0 0 1
    ∷ line 4 24 32 0 0 0 0 1
    ∷ line 3 32 32 0 0 0 2 2
    ∷ line 2 32 32 0 0 0 0 1
    ∷ [])
    -- an abandoned part outgrows the room of two, and the kept entries have it
    ∷ reads (0x02 ∷ 0x08 ∷ 0x01 ∷ 0x04 ∷ 0x00 ∷ 0x01 ∷ 0x00 ∷ 0x06 ∷ 0x02 ∷ 0x03 ∷ []) (0x2a ∷ []) 8 8 2 0
    (line 4 0 0 0 0 0 2 2
    ∷ line 3 0 0 0 0 0 0 1
    ∷ [])
    -- case A with room 4 is refused 13, and every word is 0
    ∷ refuses counters (0xff ∷ 0xfa ∷ 0x00 ∷ 0x04 ∷ []) 19 20 13 0
    -- a scan tries T itself: found after 8 bits, err, end 8
    ∷ reads (0x01 ∷ 0x00 ∷ 0x01 ∷ 0x09 ∷ 0x00 ∷ 0x01 ∷ 0x02 ∷ 0x00 ∷ 0xff ∷ 0xff ∷ 0xff ∷ 0xff ∷ 0x0c ∷ 0x03 ∷ []) (0x00 ∷ []) 8 8 2 8
    (line 4 0 8 1 1 0 8 2
    ∷ line 3 8 8 0 0 0 0 1
    ∷ [])
    -- a number is a whole number and no word: 4,294,967,295 is not -1
    ∷ reads (0x02 ∷ 0x20 ∷ 0x08 ∷ 0x00 ∷ 0x00 ∷ 0x00 ∷ 0xff ∷ 0xff ∷ 0xff ∷ 0xff ∷ []) (0xff ∷ 0xff ∷ 0xff ∷ 0xff ∷ []) 8 8 2 32
    (line 1 0 32 1 1 4294967295 0 2
    ∷ line 0 0 32 0 0 4294967295 0 1
    ∷ [])
    -- both reads its children at one bit, and ends with the longer
    ∷ reads (0x02 ∷ 0x04 ∷ 0x02 ∷ 0x08 ∷ 0x07 ∷ 0x00 ∷ 0x01 ∷ []) (0x2a ∷ []) 12 12 3 8
    (line 2 0 8 0 0 0 0 3
    ∷ line 0 0 4 0 0 2 0 1
    ∷ line 1 0 8 0 0 42 0 1
    ∷ [])
    -- an absorb keeps its child's end, code and any error, and none of its entries
    ∷ reads (0x02 ∷ 0x05 ∷ 0x00 ∷ 0x01 ∷ 0x09 ∷ 0x00 ∷ 0x01 ∷ 0x02 ∷ 0x00 ∷ 0xff ∷ 0xff ∷ 0xff ∷ 0xff ∷ 0x0b ∷ 0x03 ∷ []) (0x00 ∷ []) 8 8 1 5
    (line 4 0 5 1 1 0 0 1
    ∷ [])
    -- a terminator is looked at and not consumed: 8 bits that are 0 end the sequence before them
    ∷ reads (0x02 ∷ 0x08 ∷ 0x00 ∷ 0x02 ∷ 0x08 ∷ 0x08 ∷ 0x02 ∷ 0x00 ∷ 0x00 ∷ 0x00 ∷ 0x00 ∷ 0x00 ∷ 0x00 ∷ 0x09 ∷ 0x00 ∷ 0x01 ∷ 0x03 ∷ 0x00 ∷ 0xff ∷ 0xff ∷ 0xff ∷ 0xff ∷ []) (0x01 ∷ 0x02 ∷ 0x00 ∷ 0x03 ∷ []) 20 20 4 16
    (line 4 0 16 0 0 0 2 4
    ∷ line 0 0 8 0 0 1 0 1
    ∷ line 1 8 8 0 0 0 0 1
    ∷ line 0 8 16 0 0 2 0 1
    ∷ [])
    -- all children are tested for 6 before any for 7
    ∷ refuses (0x00 ∷ 0x0b ∷ 0x00 ∷ 0x04 ∷ 0x00 ∷ 0x02 ∷ []) [] 4 4 6 2
    -- a bad operand is tested before a bad child, wherever it stands
    ∷ refuses (0x00 ∷ 0x08 ∷ 0x01 ∷ 0x00 ∷ 0x02 ∷ 0x00 ∷ 0x00 ∷ 0x00 ∷ 0x00 ∷ []) [] 4 4 5 1
    -- k with no bind is 10
    ∷ refuses (0x02 ∷ 0x08 ∷ 0x08 ∷ 0x00 ∷ 0x00 ∷ 0x01 ∷ 0x00 ∷ 0x00 ∷ 0x00 ∷ 0x00 ∷ []) (0x2a ∷ []) 4 4 10 1
    -- an operand of kind 01 with a byte that is not 0 is not listed
    ∷ refuses (0x02 ∷ 0x08 ∷ 0x08 ∷ 0x00 ∷ 0x00 ∷ 0x01 ∷ 0x00 ∷ 0x00 ∷ 0x01 ∷ 0x00 ∷ []) (0x2a ∷ []) 4 4 5 1
    -- an input of 8,191 bytes is read
    ∷ reads (0x02 ∷ 0x08 ∷ []) (replicate 8191 7) 4 4 1 8
    (line 0 0 8 0 0 7 0 1
    ∷ [])
    -- one of 8,192 bytes is refused 12
    ∷ refuses (0x02 ∷ 0x08 ∷ []) (replicate 8192 7) 4 4 12 0
    ∷ []

found : Case → Evaluated
found c = evaluated c.description c.input c.values c.descriptors

-- The theorem: of each case, what is found is what is expected.
cases_hold : map found cases ≡ map (λ c. c.expected) cases
unfolding evaluated found cases reads refuses line joined padded counters either_of sequence_of scan_for
cases_hold = refl

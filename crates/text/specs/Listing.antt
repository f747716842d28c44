-- "The listing program": what it prints for what standard input holds, as bytes.
use Rattle.std.specs.Prelude.{ℕ, zero, suc, ◌+◌, ◌*◌, ◌==◌, ◌||◌, if◌then◌else◌, nat_lt, List, [], ◌∷◌, ◌++◌, length, slice_index_or, take, drop, codes}
use Rattle.description.specs.Limits.{most_bytes}
use Rattle.rules.specs.Outcome.{Answer, success, bad_description, input_too_long, no_room, stated, Outcome, outcome}
use Rattle.text.specs.Lines.{decimal, following}

-- "ok", count and end
abbrev pub ok_line : (count end : ℕ) → List ℕ
ok_line count end = codes "ok" ++ following (count ∷ end ∷ [])

-- "refused", number, node
abbrev pub refused_line : (number node : ℕ) → List ℕ
refused_line number node = codes "refused" ++ following (number ∷ node ∷ [])

abbrev pub refusal_line : Answer → List ℕ
refusal_line a = refused_line (stated a).refusal (stated a).node

-- "short input"
abbrev pub short_input : List ℕ
short_input = codes "short input" ++ following []

-- Word k of the entry at index i, of either table; past the table's end, 0.
abbrev pub entry_word : List ℕ → (i k : ℕ) → ℕ
entry_word table i k = slice_index_or table (4 * i + k) 0

module _ (values descriptors : List ℕ) where
  -- "node, begin, end, code, errors, number word, detail, size"
  unfoldable pub entry_line : ℕ → List ℕ
  entry_line i =
      decimal (entry_word values i 0)
      ++ following
      (entry_word descriptors i 0
      ∷ entry_word descriptors i 1
      ∷ entry_word descriptors i 2
      ∷ entry_word descriptors i 3
      ∷ entry_word values i 1
      ∷ entry_word values i 2
      ∷ entry_word values i 3
      ∷ [])

  -- "a line for each entry": those of the first n
  unfoldable pub entry_lines : ℕ → List ℕ
  entry_lines zero = []
  entry_lines (suc n) = entry_lines n ++ entry_line n

  -- What is printed of a call: its answer, and both tables afterwards.
  unfoldable pub printed : Answer → List ℕ
  printed (success count end) = ok_line count end ++ entry_lines count
  printed (bad_description r) = refusal_line (bad_description r)
  printed input_too_long = refusal_line input_too_long
  printed no_room = refusal_line no_room

-- "Its tables have room for 1,024 entries"
abbrev pub table_words : ℕ
table_words = 4 * 1024

abbrev pub printed_outcome : Outcome → List ℕ
printed_outcome o = printed o.values o.descriptors o.answer

-- What follows a stated length n. "A stated length of 0 or above 1,024 prints "refused 1 0"; otherwise, bytes that stop before the
-- description's end ... print "short input"."
unfoldable pub listed : ℕ → List ℕ → List ℕ
listed n bytes =
    if n == 0 || nat_lt most_bytes n then refused_line 1 0
    else (if nat_lt (length bytes) n then short_input
    else printed_outcome (outcome table_words table_words (take n bytes) (drop n bytes)))

-- "It reads standard input: a 16-bit big-endian length, the description, then the input." "fewer than two bytes in all, print "short input""
unfoldable pub listing : List ℕ → List ℕ
listing [] = short_input
listing (high ∷ []) = short_input
listing (high ∷ low ∷ bytes) = listed (256 * high + low) bytes

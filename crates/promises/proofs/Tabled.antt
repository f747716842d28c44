-- The tables of a successful call have the entries of the reading, from entry 0 on.
use Prim.Native.Nat.{ℕ, suc, ◌*◌, ◌≤◌}
use mathlib.Core.List.{List, [], ◌∷◌, ◌++◌}
use mathlib.Core.Path.{◌≡◌, refl, ◌∙◌}
use native.Mathlib.Nat.{suc-add}
use native.Mathlib.Omega.{arith}
use lib.ListN.{length}
use Rattle.description.specs.Check.{accepted, meaning}
use Rattle.description.specs.Trees.{Tree}
use Rattle.rules.specs.Entries.{Entry}
use Rattle.rules.specs.Outcome.{most_input, succeeding, outcome}
use Rattle.rules.specs.Reading.{read}
use Rattle.rules.specs.Tables.{value_words, descriptor_words, room, table}
use Rattle.rules.proofs.Outcomes.{outcome-read}
use Rattle.promises.specs.Table.{entry_at}
use Rattle.promises.proofs.Agreeing.{Agrees}

-- after the words of an entry come those of the next
next-entry : (e : Entry) (es : List Entry) (vs ds : List ℕ) (i : ℕ)
    → entry_at (value_words (e ∷ es) ++ vs) (descriptor_words (e ∷ es) ++ ds) (suc i) ≡ entry_at (value_words es ++ vs) (descriptor_words es ++ ds) i
unfolding entry_at value_words descriptor_words
next-entry e es vs ds i =
    let four : 4 * suc i ≡ suc (suc (suc (suc (4 * i)))) = omega arith in
    simp (four, suc-add)

-- a table that goes on, one entry later, as another does
later : (at at' : ℕ → Entry) → ((k : ℕ) → at (suc k) ≡ at' k) → (es : List Entry) (i : ℕ) → Agrees at' i es → Agrees at (suc i) es
later at at' same [] i a = tt
later at at' same (e ∷ es) i a = (same i ∙ a.0, later at at' same es (suc i) a.1)

-- words of entries, whatever follows them
words_agree : (es : List Entry) (vs ds : List ℕ) → Agrees (entry_at (value_words es ++ vs) (descriptor_words es ++ ds)) 0 es
unfolding value_words descriptor_words entry_at
words_agree [] vs ds = tt
words_agree (e ∷ es) vs ds = (refl, later _ _ (next-entry e es vs ds) es 0 (words_agree es vs ds))

-- The tables of a call whose entries have room.
pub outcome-agrees : (v d : ℕ) (desc input : List ℕ) (t : Tree) → meaning desc ≡ accepted t → length input ≤ most_input
    → length (read input t [] 0).entries ≤ room v d
    → Agrees (entry_at (outcome v d desc input).values (outcome v d desc input).descriptors) 0 (read input t [] 0).entries
unfolding succeeding table
outcome-agrees v d desc input t m h fit = rw (outcome-read v d desc input t m h fit) (words_agree (read input t [] 0).entries _ _)

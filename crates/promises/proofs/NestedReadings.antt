-- What reading a node leaves is nested in the span that it reads.
use Prim.Native.Nat.{ℕ, ◌+◌, ◌-◌, ◌≤◌, max}
use mathlib.Core.List.{List, [], ◌++◌}
use native.Mathlib.Nat.{le_refl, le_trans}
use native.Mathlib.Omega.{arith}
use lib.Dec.{eqb, leb}
use lib.IntN.{ℤ}
use Rattle.bits.specs.Bits.{total}
use Rattle.description.specs.Nodes.{Operand, Relation}
use Rattle.description.specs.Trees.{Tree, unit, bottom, bits, signed, then, bind, either, both, where', sequence, compute, absorb, scan}
use Rattle.rules.specs.Entries.{Reading, reading, fail}
use Rattle.rules.specs.Numbers.{value_of}
use Rattle.rules.specs.Rounds.{Rounds}
use Rattle.rules.specs.Tries.{first_start}
use Rattle.rules.specs.Reading.{code_for, two_sides, read_bits, done_at, read}
use Rattle.description.proofs.Choice.{by_test, by_search}
use Rattle.rules.proofs.Spans.{read-within}
use Rattle.rules.proofs.Tries.{found-start}
use Rattle.rules.proofs.Within.{Keeps}
use Rattle.promises.proofs.Nested.{Nested, nested_wider, nested_append, nested-then, Lies, reading_lies}
use Rattle.promises.proofs.NestedRounds.{Nests, RoundsLie, rounds_lie}

-- a node without entries beneath it
alone_lies : (n o end errors code : ℕ) (number : ℤ) (detail : ℕ) → o ≤ end → Lies o (reading n o end errors code number detail [])
alone_lies n o end errors code number detail h = reading_lies n o end errors code number detail [] h Nested.none

-- a node with two children
sides_lie : (n o end : ℕ) (a b : Reading) → o ≤ end → Nested o end (a.entries ++ b.entries) → Lies o (two_sides n o end a b)
unfolding two_sides
sides_lie n o end a b h beneath = reading_lies n o end _ _ _ _ (a.entries ++ b.entries) h beneath

-- a sequence, from its rounds
sequence_lies : (n o : ℕ) (number : ℤ) (r : Rounds) → RoundsLie o r
    → Lies o (reading n o r.end r.errors (code_for r.errors) number r.elements r.entries)
sequence_lies n o number r l = reading_lies n o r.end _ _ number _ r.entries l.from l.nested

module _ (input : List ℕ) where
  -- where a node ends
  abbrev within : (t : Tree) (lent : List ℤ) → Keeps (total input) (read input t lent)
  within = read-within input

  -- a node, whatever is lent to it, and wherever it is read inside the input
  abbrev pub ReadsNested : Tree → Type 0
  ReadsNested t = (lent : List ℤ) → Nests (total input) (read input t lent)

  bits_lie : (n o w : ℕ) (z : ℤ) → Lies o (read_bits input n o w z)
  unfolding read_bits
  bits_lie n o w z =
      by_test (Lies o) (leb (o + w) (total input))
      (λ t. alone_lies n o (o + w) _ _ _ _ (omega arith))
      (λ t. alone_lies n o o _ _ _ _ (le_refl o))

  -- "first at o, second at the first's end"
  turn_lies : (n : ℕ) (a b : Tree) (lent lent' : List ℤ) (o : ℕ) → o ≤ total input → ReadsNested a → ReadsNested b
      → (let r = read input a lent o in
      let s = read input b lent' r.end in
      Lies o (two_sides n o s.end r s))
  turn_lies n a b lent lent' o h f s =
      let m = (read input a lent o).end in
      let p = within a lent o h in
      let q = within b lent' m p.to in
      sides_lie n o _ (read input a lent o) (read input b lent' m) (le_trans p.from q.from)
      (nested-then p.from q.from (f lent o h) (s lent' m p.to))

  then-nested : (n : ℕ) (a b : Tree) → ReadsNested a → ReadsNested b → ReadsNested (then n a b)
  unfolding read
  then-nested n a b f s lent o h = turn_lies n a b lent lent o h f s

  bind-nested : (n : ℕ) (a b : Tree) → ReadsNested a → ReadsNested b → ReadsNested (bind n a b)
  unfolding read
  bind-nested n a b f s lent o h = turn_lies n a b lent _ o h f s

  either-nested : (n : ℕ) (a b : Tree) → ReadsNested a → ReadsNested b → ReadsNested (either n a b)
  unfolding read
  either-nested n a b f s lent o h =
      by_test (Lies o) (eqb (read input a lent o).errors 0)
      (λ t. reading_lies n o _ _ _ _ _ _ (within a lent o h).from (f lent o h))
      (λ t. reading_lies n o _ _ _ _ _ _ (within b lent o h).from (s lent o h))

  both-nested : (n : ℕ) (a b : Tree) → ReadsNested a → ReadsNested b → ReadsNested (both n a b)
  unfolding read
  both-nested n a b f s lent o h =
      let x = read input a lent o in
      let y = read input b lent o in
      sides_lie n o (max x.end y.end) x y (omega (arith, (within a lent o h).from))
      (nested_append (nested_wider (le_refl o) (omega arith) (f lent o h)) (nested_wider (le_refl o) (omega arith) (s lent o h)))

  where_nested : (n : ℕ) (a : Tree) (r : Relation) (x : Operand) → ReadsNested a → ReadsNested (where' n a r x)
  unfolding read
  where_nested n a r x f lent o h =
      by_test (Lies o) (eqb (read input a lent o).code fail)
      (λ t. reading_lies n o _ _ _ _ _ _ (within a lent o h).from (f lent o h))
      (λ t. reading_lies n o _ _ _ _ _ _ (within a lent o h).from (f lent o h))

  sequence-nested : (n : ℕ) (e s t : Tree) (x : Operand) → ReadsNested e → ReadsNested s → ReadsNested (sequence n e s t x)
  unfolding read
  sequence-nested n e s t x f g lent o h =
      let done = done_at input (value_of lent x) (read input t lent) in
      sequence_lies n o _ _
      (rounds_lie (total input) (read input e lent) (read input s lent) done (within e lent) (within s lent) (f lent) (g lent) (total input - o) o h)

  absorb-nested : (n : ℕ) (a : Tree) → ReadsNested (absorb n a)
  unfolding read
  absorb-nested n a lent o h = alone_lies n o _ _ _ _ _ (within a lent o h).from

  scan-nested : (n : ℕ) (a : Tree) → ReadsNested a → ReadsNested (scan n a)
  unfolding read
  scan-nested n a f lent o h =
      by_search (Lies o) (first_start (read input a lent) (total input - o) o)
      (λ e. alone_lies n o o _ _ _ _ (le_refl o))
      (λ p e.
      let found = found-start (read input a lent) (total input - o) o p e in
      let inside : p ≤ total input = omega (arith, found.1) in
      reading_lies n o _ _ _ _ _ _ (le_trans found.0 (within a lent p inside).from) (nested_wider found.0 (le_refl _) (f lent p inside)))

  -- Every node.
  pub read-nested : (t : Tree) → ReadsNested t
  unfolding read
  read-nested (unit n) = λ lent o h. alone_lies n o o _ _ _ _ (le_refl o)
  read-nested (bottom n) = λ lent o h. alone_lies n o o _ _ _ _ (le_refl o)
  read-nested (bits n w) = λ lent o h. bits_lie n o w _
  read-nested (signed n w) = λ lent o h. bits_lie n o w _
  read-nested (then n a b) = then-nested n a b (read-nested a) (read-nested b)
  read-nested (bind n a b) = bind-nested n a b (read-nested a) (read-nested b)
  read-nested (either n a b) = either-nested n a b (read-nested a) (read-nested b)
  read-nested (both n a b) = both-nested n a b (read-nested a) (read-nested b)
  read-nested (where' n a r x) = where_nested n a r x (read-nested a)
  read-nested (sequence n e s t x) = sequence-nested n e s t x (read-nested e) (read-nested s)
  read-nested (compute n w f x y) = λ lent o h. alone_lies n o o _ _ _ _ (le_refl o)
  read-nested (absorb n a) = absorb-nested n a
  read-nested (scan n a) = scan-nested n a (read-nested a)

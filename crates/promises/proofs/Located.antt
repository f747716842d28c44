-- What is found of an entry of a table that has a reading's entries, and how it is found: at the reading's own entry, in a child, in one of two.
use Prim.Native.Nat.{ℕ, ◌+◌, ◌≤◌, ◌<◌}
use mathlib.Core.List.{List, ◌++◌}
use mathlib.Core.Option.{Option, none, some}
use mathlib.Core.Path.{◌≡◌, refl, subst}
use native.Mathlib.Omega.{arith}
use lib.Dec.{eqb}
use lib.IntN.{ℤ}
use lib.ListN.{length}
use borrow.Author.Tests.{eqb-true, eqb-false}
use Rattle.description.specs.Trees.{Tree}
use Rattle.description.proofs.Choice.{by_test}
use Rattle.rules.specs.Entries.{Entry, Reading}
use Rattle.rules.specs.Reading.{read}
use Rattle.rules.proofs.Heads.{read_headed}
use Rattle.promises.specs.Places.{Place, here, turns, place_in, absorbs}
use Rattle.promises.proofs.Absorbing.{Fewer, fewer-first, fewer-second}
use Rattle.promises.proofs.Agreeing.{Agrees}
use Rattle.promises.proofs.Sound.{Sound}
use Rattle.promises.proofs.Turning.{Finds, two_by_turns}

-- a number of no absorb node of the root is of none of the tree
abbrev pub NoMoreAbsorbs : (root t : Tree) → Type 0
NoMoreAbsorbs root t = Fewer (absorbs root) (absorbs t)

-- What is found of entry j: a place, and from entry j on the table has the entries of a reading of its tree with its numbers.
pub record Located (input : List ℕ) (root : Tree) (at : ℕ → Entry) (j : ℕ) (found : Option Place) : Type 0 where
  pub place : Place
  pub is : found ≡ some place
  pub sound : Sound place.tree
  pub under : NoMoreAbsorbs root place.tree
  pub offset : ℕ
  pub agrees : Agrees at j (read input place.tree place.lent offset).entries

module _ (input : List ℕ) (at : ℕ → Entry) (j : ℕ) where
  -- what is shown of a reading of a tree
  abbrev pub Locates : Tree → List ℤ → ℕ → Type 0
  Locates t lent o = Finds at j (Located input t at j) (read input t lent o).entries (place_in at j t lent)

  -- what is shown of it where its own entry, at i, is not entry j
  abbrev pub Beneath : Tree → ℕ → Option Place → Reading → Type 0
  Beneath t i below r = Agrees at i r.entries → i < j → j < i + length r.entries → Located input t at j below

  -- Entry j is the reading's own, and its place is the tree itself, or it is beneath.
  pub here-located : (t : Tree) → Sound t → (lent : List ℤ) (o i : ℕ) (below : Option Place) → Beneath t i below (read input t lent o)
      → Agrees at i (read input t lent o).entries → i ≤ j → j < i + length (read input t lent o).entries
      → Located input t at j (here at j t lent i below)
  unfolding here
  here-located t sound lent o i below beneath a from to =
      by_test (Located input t at j) (eqb i j)
      (λ e.
      record {
        place = record { tree = t; lent = lent };
        is = refl;
        sound = sound;
        under = λ n z. z;
        offset = o;
        agrees = subst (λ (k : ℕ). Agrees at k (read input t lent o).entries) (eqb-true i j e) a;
      })
      (λ e. beneath a (omega (arith, eqb-false i j e)) to)

  -- None is beneath an entry that is the only one.
  pub alone-located : (t : Tree) → Sound t → (lent : List ℤ) (o : ℕ) → length (read input t lent o).entries ≡ 1
      → Finds at j (Located input t at j) (read input t lent o).entries (λ i. here at j t lent i none)
  alone-located t sound lent o one i = here-located t sound lent o i none (λ a l to. absurd (omega arith))

  -- What is found in a child is found in its parent.
  pub child-located : (root t : Tree) → NoMoreAbsorbs root t → (lent : List ℤ) (o : ℕ) → Locates t lent o
      → Finds at j (Located input root at j) (read input t lent o).entries (place_in at j t lent)
  child-located root t part lent o child k a from to =
      let l = child k a from to in
      record {
        place = l.place;
        is = l.is;
        sound = l.sound;
        under = λ n e. l.under n (part n e);
        offset = l.offset;
        agrees = l.agrees;
      }

  -- Two children, the one after the other.
  pub two-located : (root a b : Tree) → Fewer (absorbs root) (absorbs a ++ absorbs b)
      → (lent more : List ℤ) (o p : ℕ) → Locates a lent o → Locates b more p
      → Finds at j (Located input root at j) ((read input a lent o).entries ++ (read input b more p).entries)
      (turns at j 2 (place_in at j a lent) (place_in at j b more))
  two-located root a b parts lent more o p first second =
      two_by_turns at j (Located input root at j) (read_headed input a lent o) (read_headed input b more p)
      (place_in at j a lent) (place_in at j b more)
      (child-located root a (λ n e. fewer-first (absorbs a) (absorbs b) n (parts n e)) lent o first)
      (child-located root b (λ n e. fewer-second (absorbs a) (absorbs b) n (parts n e)) more p second)

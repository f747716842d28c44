-- Which node an entry is of, and which numbers are lent to it, from the entries themselves: from the root down, by sizes. Nothing here reads.
use Rattle.std.specs.Prelude.{ℕ, zero, suc, ◌≤◌, ◌<◌, true, false, List, [], ◌∷◌, ◌++◌, ◌≡◌, eqb, ltb, ℤ}
use Rattle.std.proofs.Math.Option.{Option, none, some}
use Rattle.description.specs.Check.{is_in}
use Rattle.description.specs.Trees.{Tree, unit, bottom, bits, signed, then, bind, either, both, where', sequence, compute, absorb, scan}
use Rattle.rules.specs.Entries.{Entry}
use Rattle.rules.specs.Fitting.{recorded, Fits}
use Rattle.promises.specs.Table.{after, beneath}

-- The tree of an entry's node, and "bound numbers as their entries record them", the nearest bind's first.
pub record Place : Type 0 where
  pub tree : Tree
  pub lent : List ℤ

-- The place of entry j.
module _ (at : ℕ → Entry) (j : ℕ) where
  -- The entry at i is j itself, or j stands beneath it.
  unfoldable pub here : Tree → List ℤ → ℕ → Option Place → Option Place
  here t lent i below = elim (eqb i j) [ true ↦ some (record { tree = t; lent = lent }) | false ↦ below ]

  -- Parts of two sorts by turns, each after the subtree of the one before: the part that holds entry j, among so many from entry i on.
  unfoldable pub turns : (left : ℕ) → (this other : ℕ → Option Place) → ℕ → Option Place
  turns zero this other i = none
  turns (suc left) this other i = elim (ltb j (after at i)) [ true ↦ this i | false ↦ turns left other this (after at i) ]

  -- The place of entry j in the subtree of entry i.
  unfoldable pub place_in : Tree → List ℤ → ℕ → Option Place
  place_in (unit n) lent i = here (unit n) lent i none
  place_in (bottom n) lent i = here (bottom n) lent i none
  place_in (bits n w) lent i = here (bits n w) lent i none
  place_in (signed n w) lent i = here (signed n w) lent i none
  place_in (then n a b) lent i = here (then n a b) lent i (turns 2 (λ k. place_in a lent k) (λ k. place_in b lent k) (suc i))
  -- "Only the second child of a bind lies inside that binding."
  place_in (bind n a b) lent i =
      here (bind n a b) lent i (turns 2 (λ k. place_in a lent k) (λ k. place_in b (recorded a (at (suc i)) ∷ lent) k) (suc i))
  -- "Detail is 1 or 2 for either"
  place_in (either n a b) lent i =
      here (either n a b) lent i (elim (eqb (at i).detail 1) [ true ↦ place_in a lent (suc i) | false ↦ place_in b lent (suc i) ])
  place_in (both n a b) lent i = here (both n a b) lent i (turns 2 (λ k. place_in a lent k) (λ k. place_in b lent k) (suc i))
  place_in (where' n a r x) lent i = here (where' n a r x) lent i (place_in a lent (suc i))
  -- "by turns element and separator": no more parts than entries
  place_in (sequence n e s t x) lent i =
      here (sequence n e s t x) lent i (turns (at i).size (λ k. place_in e lent k) (λ k. place_in s lent k) (suc i))
  place_in (compute n w f x y) lent i = here (compute n w f x y) lent i none
  -- "Entries of the child are not kept."
  place_in (absorb n a) lent i = here (absorb n a) lent i none
  place_in (scan n a) lent i = here (scan n a) lent i (place_in a lent (suc i))

-- The place of entry j in a table whose root entry is of this tree.
unfoldable pub place_of : Tree → (ℕ → Entry) → ℕ → Option Place
place_of root at j = place_in at j root [] 0

-- Entry j "fits: its bits and numbers, and all those beneath it, meet the description".
pub record FitsAt (input : List ℕ) (root : Tree) (at : ℕ → Entry) (j : ℕ) : Type 0 where
  pub place : Place
  pub is : place_of root at j ≡ some place
  pub fits : Fits input place.tree place.lent (at j) (beneath at j)

-- The numbers of the absorb nodes of a tree.
unfoldable pub absorbs : Tree → List ℕ
absorbs (unit n) = []
absorbs (bottom n) = []
absorbs (bits n w) = []
absorbs (signed n w) = []
absorbs (then n a b) = absorbs a ++ absorbs b
absorbs (bind n a b) = absorbs a ++ absorbs b
absorbs (either n a b) = absorbs a ++ absorbs b
absorbs (both n a b) = absorbs a ++ absorbs b
absorbs (where' n a r x) = absorbs a
absorbs (sequence n e s t x) = absorbs e ++ absorbs s ++ absorbs t
absorbs (compute n w f x y) = []
absorbs (absorb n a) = n ∷ absorbs a
absorbs (scan n a) = absorbs a

-- "with no absorbed part at or beneath it": no entry of its subtree is of an absorb node.
abbrev pub NoneAbsorbed : (root : Tree) (at : ℕ → Entry) (j : ℕ) → Type 0
NoneAbsorbed root at j = (k : ℕ) → j ≤ k → k < after at j → is_in (at k).node (absorbs root) ≡ false

-- Of a table of so many entries: "An entry with zero errors fits",
abbrev pub ZeroErrorsFit : List ℕ → Tree → (ℕ → Entry) → ℕ → Type 0
ZeroErrorsFit input root at count = (i : ℕ) → i < count → (at i).errors ≡ 0 → FitsAt input root at i

-- and "An entry that fits, with no absorbed part at or beneath it, has zero errors."
abbrev pub FitsZeroErrors : List ℕ → Tree → (ℕ → Entry) → ℕ → Type 0
FitsZeroErrors input root at count = (i : ℕ) → i < count → FitsAt input root at i → NoneAbsorbed root at i → (at i).errors ≡ 0

-- What spans and sizes say, of a table of `count` entries over an input of `bits` bits.
use Rattle.std.specs.Prelude.{ℕ, ◌≤◌, ◌<◌, ◌≡◌}
use Rattle.rules.specs.Entries.{Entry}
use Rattle.promises.specs.Table.{after, ChildOf}

pub record Spans (at : ℕ → Entry) (count bits : ℕ) : Type 0 where
  -- "No entry ends before it begins"
  pub forward : (i : ℕ) → i < count → (at i).begin ≤ (at i).end
  -- "or reaches outside its parent."
  pub nested : (i j : ℕ) → i < count → ChildOf at i j → ((at i).begin ≤ (at j).begin) × ((at j).end ≤ (at i).end)
  -- The root's span is inside the input.
  pub inside : (at 0).end ≤ bits
  -- Every entry but the root has a parent, and only one.
  pub parent : (j : ℕ) → 0 < j → j < count → (i : ℕ) × (i < j) × ChildOf at i j
  pub one_parent : (i k j : ℕ) → i < count → k < count → ChildOf at i j → ChildOf at k j → i ≡ k
  -- "size (entries in this subtree, itself included)": the root's is the count, and the subtrees of an entry's children, which follow it without a
  -- gap, end inside its own.
  pub whole : (at 0).size ≡ count
  pub itself : (i : ℕ) → i < count → 0 < (at i).size
  pub tiled : (i j : ℕ) → i < count → ChildOf at i j → after at j ≤ after at i

-- The flags by which the check knows which nodes are named: what its functions promise each other of them.
use Rattle.std.specs.Prelude.{ℕ, ◌<◌, Bool, true, false, ◌||◌, List, [], ◌∷◌, ◌≡◌, length, get_or, set}
use Rattle.description.specs.Check.{is_in}
use Rattle.description.specs.Limits.{most_nodes}

-- There is a flag for each node that a description may have, and it says whether the node is among the names.
pub record Marks (flags : List Bool) (names : List ℕ) : Type 0 where
  pub all : length flags ≡ most_nodes
  pub at : (i : ℕ) → i < most_nodes → get_or flags i false ≡ is_in i names

-- Some child of the list is marked, or stands in it twice.
unfoldable pub some_marked : List Bool → List ℕ → Bool
some_marked flags [] = false
some_marked flags (c ∷ cs) = get_or flags c false || some_marked (set flags c true) cs

-- The flags with every child of the list marked.
unfoldable pub marked : List Bool → List ℕ → List Bool
marked flags [] = flags
marked flags (c ∷ cs) = marked (set flags c true) cs

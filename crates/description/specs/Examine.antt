-- The check as a reader of records asks for it: with how many nodes there are, and where they begin.
use Rattle.std.specs.Prelude.{ℕ, ◌-◌, ◌≤◌, ◌<◌, true, false, List, [], ◌≡◌, ltb, length, Result, Ok, Err}
use Rattle.description.specs.Binds.{needs, binds}
use Rattle.description.specs.Check.{nodes_from, accepted, refused, meaning}
use Rattle.description.specs.Limits.{most_bytes, most_nodes, most_binds}
use Rattle.description.specs.Places.{tree_of, Placed, standing, placed_starts}
use Rattle.description.specs.declared.Refusal.{Refusal}

-- The refusal, or how many nodes an accepted description has.
unfoldable pub examined : List ℕ → Result ℕ Refusal
examined desc = elim (meaning desc) [ refused r ↦ Err r | accepted tree ↦ Ok (standing (nodes_from desc most_nodes [] 0)) ]

-- The array of starts afterwards: as it was for a description of over 1,024 bytes, which is not parsed.
unfoldable pub starts_after : List ℕ → List ℕ → List ℕ
starts_after desc starts = elim (ltb most_bytes (length desc)) [ true ↦ starts | false ↦ placed_starts desc starts ]

-- The last of n nodes is the root of what the description means, each operand names an enclosing bind, and there are no more than 31 of them around
-- one node.
pub record Rooted (desc : List ℕ) (n : ℕ) : Type 0 where
  pub some-node : 0 < n
  pub means : meaning desc ≡ accepted (tree_of desc (n - 1))
  pub bound : needs (tree_of desc (n - 1)) ≡ 0
  pub few-binds : binds (tree_of desc (n - 1)) ≤ most_binds

-- What a reader rests on where n nodes were found: the last is the root, and each can be visited.
pub record Readable (desc starts : List ℕ) (n : ℕ) : Type 0 where
  pub root : Rooted desc n
  pub placed : (k : ℕ) → k < n → Placed desc starts k

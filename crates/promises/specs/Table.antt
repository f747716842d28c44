-- Both tables as a caller holds them: entries by their index, and which entries stand beneath which.
use Rattle.std.specs.Prelude.{ℕ, zero, suc, ◌+◌, ◌-◌, ◌*◌, ◌<◌, List, [], ◌∷◌, ◌≡◌, get_or}
use Rattle.rules.specs.Entries.{Entry}

-- Entry i: words 4i to 4i + 3 of each table. "A value entry has ... node number, number (low 32 bits), detail, size". "A descriptor entry has
-- begin, end, code, errors."
unfoldable pub entry_at : (values descriptors : List ℕ) → ℕ → Entry
entry_at values descriptors i =
    record {
      node = get_or values (4 * i) 0;
      number = get_or values (4 * i + 1) 0;
      detail = get_or values (4 * i + 2) 0;
      size = get_or values (4 * i + 3) 0;
      begin = get_or descriptors (4 * i) 0;
      end = get_or descriptors (4 * i + 1) 0;
      code = get_or descriptors (4 * i + 2) 0;
      errors = get_or descriptors (4 * i + 3) 0;
    }

module _ (at : ℕ → Entry) where
  -- The entry after the subtree of entry i: "size (entries in this subtree, itself included)".
  unfoldable pub after : ℕ → ℕ
  after i = i + (at i).size

  -- So many entries from entry i on.
  unfoldable pub entries : (i n : ℕ) → List Entry
  entries i zero = []
  entries i (suc n) = at i ∷ entries (suc i) n

  -- The entries beneath entry i.
  unfoldable pub beneath : ℕ → List Entry
  beneath i = entries (suc i) ((at i).size - 1)

  -- Where child n of entry i stands, counted from 0: the first after entry i itself, each next one after the subtree of the one before.
  unfoldable pub child_at : (i n : ℕ) → ℕ
  child_at i zero = suc i
  child_at i (suc n) = after (child_at i n)

  -- Entry j is a child of entry i.
  pub record ChildOf (i j : ℕ) : Type 0 where
    pub place : ℕ
    pub is : j ≡ child_at i place
    pub inside : j < after i

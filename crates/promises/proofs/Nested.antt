-- Entries that are subtrees one after another, each inside a span and over the entries that its size counts, whose own subtrees lie inside it.
use Prim.Native.Nat.{ℕ, suc, ◌≤◌}
use mathlib.Core.List.{List, [], ◌∷◌, ◌++◌, append_assoc, append-nil}
use mathlib.Core.Path.{◌≡◌, refl, sym, ap, ◌∙◌}
use native.Mathlib.Nat.{le_refl, le_trans}
use lib.IntN.{ℤ}
use lib.ListN.{length}
use Rattle.rules.specs.Entries.{Entry, Reading, reading}

pub data Nested : (lo hi : ℕ) → List Entry → Type 0 where
  none : {lo hi : ℕ} → Nested lo hi []
  more : {lo hi : ℕ} {es : List Entry} (e : Entry) (run rest : List Entry)
      → es ≡ (e ∷ run) ++ rest → e.size ≡ suc (length run) → lo ≤ e.begin → e.begin ≤ e.end → e.end ≤ hi
      → Nested e.begin e.end run → Nested lo hi rest
      → Nested lo hi es

-- what lies inside a span lies inside a wider one
pub nested_wider : {lo hi lo' hi' : ℕ} {es : List Entry} → lo' ≤ lo → hi ≤ hi' → Nested lo hi es → Nested lo' hi' es
nested_wider l h Nested.none = Nested.none
nested_wider l h (Nested.more e run rest are size from forward to inner others) =
    Nested.more e run rest are size (le_trans l from) forward (le_trans to h) inner (nested_wider l h others)

-- subtrees, and then further ones
pub nested_append : {lo hi : ℕ} {es fs : List Entry} → Nested lo hi es → Nested lo hi fs → Nested lo hi (es ++ fs)
nested_append Nested.none f = f
nested_append {fs = fs} (Nested.more e run rest are size from forward to inner others) f =
    let all = ap (λ (l : List Entry). l ++ fs) are ∙ append_assoc (e ∷ run) rest fs in
    Nested.more e run (rest ++ fs) all size from forward to inner (nested_append others f)

-- subtrees inside a span, and further ones inside the next
pub nested-then : {lo mid hi : ℕ} {es fs : List Entry} → lo ≤ mid → mid ≤ hi → Nested lo mid es → Nested mid hi fs → Nested lo hi (es ++ fs)
nested-then {lo} {mid} {hi} l h e f = nested_append (nested_wider (le_refl lo) h e) (nested_wider l (le_refl hi) f)

-- the entries of a node that is read at o lie inside what it reads
abbrev pub Lies : ℕ → Reading → Type 0
Lies o r = Nested o r.end r.entries

-- a node's own entry, over those beneath it
pub reading_lies : (n o end errors code : ℕ) (number : ℤ) (detail : ℕ) (beneath : List Entry) → o ≤ end → Nested o end beneath
    → Lies o (reading n o end errors code number detail beneath)
unfolding reading
reading_lies n o end errors code number detail beneath h inner =
    Nested.more _ beneath [] (sym (append-nil _)) refl (le_refl o) h (le_refl end) inner Nested.none

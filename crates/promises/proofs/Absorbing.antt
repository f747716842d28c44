-- Entries of which none is of a node in a list, as the absorb nodes of a tree are.
use Prim.Native.Nat.{ℕ}
use mathlib.Core.Bool.{false}
use mathlib.Core.List.{List, [], ◌∷◌, ◌++◌}
use mathlib.Core.Path.{◌≡◌, sym, ◌∙◌}
use Rattle.description.specs.Check.{is_in}
use Rattle.std.proofs.lemmas.Bool.{or_parts}
use Rattle.description.proofs.Marking.{in_append}
use Rattle.rules.specs.Entries.{Entry}

abbrev pub Off : List ℕ → List Entry → Type 0
Off ns [] = Unit
Off ns (e ∷ es) = (is_in e.node ns ≡ false) × Off ns es

-- Fewer nodes.
abbrev pub Fewer : List ℕ → List ℕ → Type 0
Fewer ns ms = (n : ℕ) → is_in n ns ≡ false → is_in n ms ≡ false

pub fewer-first : (ms ks : List ℕ) → Fewer (ms ++ ks) ms
fewer-first ms ks n e = (or_parts (is_in n ms) (is_in n ks) (sym (in_append n ms ks) ∙ e)).0

pub fewer-second : (ms ks : List ℕ) → Fewer (ms ++ ks) ks
fewer-second ms ks n e = (or_parts (is_in n ms) (is_in n ks) (sym (in_append n ms ks) ∙ e)).1

pub off_fewer : (ns ms : List ℕ) → Fewer ns ms → (es : List Entry) → Off ns es → Off ms es
off_fewer ns ms f [] off = tt
off_fewer ns ms f (e ∷ es) off = (f e.node off.0, off_fewer ns ms f es off.1)

-- Fewer entries.
pub off_first : (ns : List ℕ) (es fs : List Entry) → Off ns (es ++ fs) → Off ns es
off_first ns [] fs off = tt
off_first ns (e ∷ es) fs off = (off.0, off_first ns es fs off.1)

pub off_second : (ns : List ℕ) (es fs : List Entry) → Off ns (es ++ fs) → Off ns fs
off_second ns [] fs off = off
off_second ns (e ∷ es) fs off = off_second ns es fs off.1

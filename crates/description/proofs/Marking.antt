-- Where the flags say which nodes are named, testing and marking children by them is testing and naming them.
use Prim.Native.Nat.{ℕ, suc, ◌+◌, ◌≤◌, ◌<◌}
use mathlib.Core.Bool.{Bool, true, false, ◌||◌}
use mathlib.Core.List.{List, [], ◌∷◌, ◌++◌, append-nil, append_assoc}
use mathlib.Core.Option.{Option, none, some}
use mathlib.Core.Path.{◌≡◌, refl, sym, ap, ap₂, ◌∙◌}
use native.Mathlib.Nat.{add-zero}
use native.Mathlib.Omega.{arith}
use lib.Dec.{eqb}
use lib.ListN.{length, take, drop, get_or, set, length-set, replicate, length-replicate, get_or-replicate}
use Rattle.std.specs.Prelude.{Some, None, cond, not, position}
use Rattle.std.specs.Prelude as std
use Rattle.std.specs.List.{position_from}
use Rattle.std.proofs.lemmas.Iterator.Adapters.{position_from-zero}
use Rattle.std.proofs.lemmas.List.Folds.{list_any-append}
use Rattle.std.proofs.lemmas.Grind.{common_steps}
use Rattle.description.proofs.Children.{smaller-parts}
use Rattle.description.specs.Check.{is_in, some_not_smaller, some_named_before, named_by, never_named}
use Rattle.description.specs.Limits.{most_nodes}
use Rattle.description.specs.Inner.Names.{Marks, some_marked, marked}
use Rattle.description.specs.Nodes.{Node, children}
use Rattle.description.specs.declared.Refusal.{Refusal}
use Rattle.description.specs.declared.Refusal.TheVariants.{NeverNamed}

-- a number is in two lists together where it is in one of them
pub in_append : (i : ℕ) (xs ys : List ℕ) → is_in i (xs ++ ys) ≡ (is_in i xs || is_in i ys)
unfolding is_in
in_append i = list_any-append (eqb i)

-- in whatever order they stand
pub in_moved : (i : ℕ) (xs : List ℕ) (y : ℕ) (ys : List ℕ) → is_in i (y ∷ xs ++ ys) ≡ is_in i (xs ++ y ∷ ys)
unfolding is_in
in_moved i xs y ys = grind (arith, list_any-append)

-- no name yet
pub mark_none : Marks (replicate most_nodes false) []
unfolding is_in
mark_none = record { all = length-replicate most_nodes false; at = λ i h. get_or-replicate most_nodes i false false h }

-- one name more
mark_one : (flags : List Bool) (names : List ℕ) (c : ℕ) → c < most_nodes → Marks flags names → Marks (set flags c true) (c ∷ names)
unfolding is_in
mark_one flags names c h m = record {
  all = length-set flags c true ∙ m.all;
  at = λ i l. let t = m.at i l in grind (arith, common_steps, m.all);
}

pub tested : (flags : List Bool) (names cs : List ℕ) → Marks flags names → some_not_smaller most_nodes cs ≡ false → some_marked flags cs ≡ some_named_before names cs
unfolding some_marked some_named_before some_not_smaller
tested flags names [] m below = refl
tested flags names (c ∷ cs) m below =
    let h = (smaller-parts most_nodes c cs below).0 in
    ap₂ ◌||◌ (m.at c h)
    (tested (set flags c true) (c ∷ names) cs (mark_one flags names c h m) (smaller-parts most_nodes c cs below).1)

pub marking : (flags : List Bool) (names cs : List ℕ) → Marks flags names → some_not_smaller most_nodes cs ≡ false → Marks (marked flags cs) (names ++ cs)
unfolding marked some_not_smaller
marking flags names [] m below = rw append-nil m
marking flags names (c ∷ cs) m below =
    let h = (smaller-parts most_nodes c cs below).0 in
    let later = marking (set flags c true) (c ∷ names) cs (mark_one flags names c h m) (smaller-parts most_nodes c cs below).1 in
    record { all = later.all; at = λ i l. later.at i l ∙ in_moved i names c cs }

-- the names of one node more
pub named_snoc : (before : List Node) (node : Node) → named_by (before ++ (node ∷ [])) ≡ named_by before ++ children node
unfolding named_by
named_snoc [] node = append-nil (children node)
named_snoc (n ∷ ns) node = ap (λ l. children n ++ l) (named_snoc ns node) ∙ sym (append_assoc (children n) (named_by ns) (children node))

-- the refusal for the lowest node that is not named
unfoldable pub refusal_of : std.Option ℕ → Option Refusal
refusal_of None = none
refusal_of (Some i) = some (NeverNamed i)

-- the search goes on past a node that is named
search-step : (f : Bool) (names : List ℕ) (i left : ℕ) (o : std.Option ℕ) → f ≡ is_in i names
    → never_named names (i + 1) left ≡ refusal_of o → never_named names i (suc left) ≡ refusal_of (cond (not f) (Some i) o)
unfolding never_named refusal_of
search-step f names i left o here later = grind arith

search-from : (flags : List Bool) (names : List ℕ) (i : ℕ) → ((k : ℕ) → k < length flags → get_or flags k false ≡ is_in (i + k) names)
    → never_named names i (length flags) ≡ refusal_of (position_from not i flags)
unfolding never_named refusal_of
search-from [] names i h = refl
search-from (f ∷ flags) names i h =
    search-step f names i (length flags) _ (rw add-zero at (h 0 (omega arith)))
    (search-from flags names (i + 1) (λ k l. let e : i + suc k ≡ i + 1 + k = omega arith in h (suc k) (omega arith) ∙ ap (λ (p : ℕ). is_in p names) e))

-- The lowest of so many nodes from i on that is not named, by the flags; and of all below n.
pub unmarked-from : (flags : List Bool) (names : List ℕ) (i left : ℕ) → Marks flags names → i + left ≤ most_nodes
    → never_named names i left ≡ refusal_of (position_from not i (take left (drop i flags)))
unmarked-from flags names i left m h =
    let few : length (take left (drop i flags)) ≡ left = grind (arith, common_steps, m.all) in
    ap (never_named names i) (sym few)
    ∙ search-from (take left (drop i flags)) names i (λ k l. grind (arith, common_steps, m.at (i + k) (omega (arith, few, l))))

pub unmarked-unnamed : (flags : List Bool) (names : List ℕ) (n : ℕ) → Marks flags names → n ≤ most_nodes
    → never_named names 0 n ≡ refusal_of (position not (take n flags))
unmarked-unnamed flags names n m h =
    unmarked-from flags names 0 n m (omega arith) ∙ ap refusal_of (sym (position_from-zero not (take n flags)))

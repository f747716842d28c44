-- A bind's or a where's first child is a node before, and its kind says whether it is a number.
use Rattle.std.proofs.Common.{◌≡◌, ℕ, ◌<◌, List, [], ◌∷◌, Bool, true, false, not, ◌||◌, length, take, get_or, refl, arith}
use Rattle.description.specs.Bodies.{child_counts, child_count}
use Rattle.description.specs.Check.{some_not_smaller, some_no_number}
use Rattle.description.specs.Inner.Children.{number_children}
use Rattle.description.specs.Nodes.{Node, unit, is_number}
use Rattle.description.specs.Places.{nodes_to, kind_of}
use Rattle.description.proofs.Children.{smaller-parts}
use Rattle.description.proofs.Numbered.{nodes-at}
use Rattle.description.proofs.Rows.{number_at}
use Rattle.description.proofs.nodes.some_no_number.Goals as goal

first-below : (n : ℕ) (cs : List ℕ) → 0 < length cs → some_not_smaller n cs ≡ false → get_or cs 0 0 < n
unfolding some_not_smaller
first-below n [] h e = absurd (omega arith)
first-below n (c ∷ cs) h e = (smaller-parts n c cs e).0

or_false : (b : Bool) → (b || false) ≡ b
or_false true = refl
or_false false = refl

first-asked : (nodes : List Node) (cs : List ℕ) → 0 < length cs → some_no_number nodes (take 1 cs) ≡ not (is_number (get_or nodes (get_or cs 0 0) unit))
unfolding some_no_number
first-asked nodes [] h = absurd (omega arith)
first-asked nodes (c ∷ cs) h = or_false _

pub bounds-children-0 : goal.bounds-children-0
unfolding child_count child_counts
bounds-children-0 c = grind arith

pub kind_of-requires : goal.kind_of-requires
unfolding child_count child_counts
kind_of-requires c = first-below _ _ (grind arith) c.requires.smaller

pub returns-then-matches : goal.returns-then-matches
unfolding child_count child_counts number_children kind_of
returns-then-matches c =
    let some : 0 < length c.args.children.now = grind arith in
    let below = first-below _ _ some c.requires.smaller in
    let b = c.args.before.now in
    let asked = first-asked (nodes_to b.desc.now (length b.starts.now)) _ some in
    let child = nodes-at b.desc.now (length b.starts.now) _ below in
    grind (arith, number_at)

pub returns-else-matches : goal.returns-else-matches
unfolding number_children some_no_number
returns-else-matches c = grind arith

-- The law of enclosing binds: n of them around a node take at least 2n + 1 nodes. Each has a number node of its own beside it, and no node is
-- named twice, so that the nodes of a tree are no more than the nodes that there are.
use Prim.Native.Nat.{ℕ, zero, suc, ◌+◌, ◌*◌, ◌≤◌, ◌<◌, zero-le}
use mathlib.Core.Bool.{Bool, true, false, cond, ◌||◌}
use mathlib.Core.List.{List, [], ◌∷◌, ◌++◌, append-nil}
use mathlib.Core.Path.{◌≡◌, refl, ap, ◌∙◌}
use native.Mathlib.Decide.{ℕ_discrete}
use native.Mathlib.Omega.{arith}
use lib.Dec.{eqb, lit≤}
use lib.ListN.{length}
use borrow.Author.Tests.{eq-eqb, ne_eqb}
use Rattle.description.specs.Binds.{binds}
use Rattle.description.specs.Check.{is_in, some_not_smaller, some_named_before, named_by, node_at, parsed, nodes_from}
use Rattle.description.specs.Limits.{most_nodes, most_binds}
use Rattle.description.specs.Nodes.{Node, children}
use Rattle.description.specs.Places.{start, nodes_to, tree_of, Stands}
use Rattle.description.specs.Trees.{Tree, unit, bottom, bits, signed, then, bind, either, both, where', sequence, compute, absorb, scan, tree, trees_after, root_tree}
use Rattle.std.proofs.lemmas.Bool.{or_parts}
use Rattle.description.proofs.Children.{smaller-parts}
use Rattle.description.proofs.Marking.{in_moved, named_snoc}
use Rattle.description.proofs.Reached.{first-nodes}
use Rattle.description.proofs.Standing.{tests, smaller}
use Rattle.description.proofs.Trees.{tree_of_lem}

-- How many nodes a tree has.
unfoldable size : Tree → ℕ
size (unit n) = 1
size (bottom n) = 1
size (bits n w) = 1
size (signed n w) = 1
size (then n a b) = suc (size a + size b)
size (bind n a b) = suc (size a + size b)
size (either n a b) = suc (size a + size b)
size (both n a b) = suc (size a + size b)
size (where' n a r x) = suc (size a)
size (sequence n e s t x) = suc (size e + size s + size t)
size (compute n w f x y) = 1
size (absorb n a) = suc (size a)
size (scan n a) = suc (size a)

-- a bind adds two nodes at least around its second child: its own, and its first child's
binds-size : (t : Tree) → 2 * binds t + 1 ≤ size t
unfolding binds size
binds-size (unit n) = lit≤ tt
binds-size (bottom n) = lit≤ tt
binds-size (bits n w) = lit≤ tt
binds-size (signed n w) = lit≤ tt
binds-size (then n a b) = omega (arith, binds-size a, binds-size b)
binds-size (bind n a b) = omega (arith, binds-size a, binds-size b)
binds-size (either n a b) = omega (arith, binds-size a, binds-size b)
binds-size (both n a b) = omega (arith, binds-size a, binds-size b)
binds-size (where' n a r x) = omega (arith, binds-size a)
binds-size (sequence n e s t x) = omega (arith, binds-size e, binds-size s, binds-size t)
binds-size (compute n w f x y) = lit≤ tt
binds-size (absorb n a) = omega (arith, binds-size a)
binds-size (scan n a) = omega (arith, binds-size a)

-- a number for each node
module _ (f : ℕ → ℕ) where
  -- their sum over the nodes of a list
  sum : List ℕ → ℕ
  sum [] = 0
  sum (c ∷ cs) = f c + sum cs

  -- and over the nodes below n that are not in it
  unnamed : List ℕ → ℕ → ℕ
  unnamed names zero = 0
  unnamed names (suc n) = unnamed names n + cond (is_in n names) 0 (f n)

  unnamed-same : (names others : List ℕ) → ((i : ℕ) → is_in i names ≡ is_in i others) → (n : ℕ) → unnamed names n ≡ unnamed others n
  unfolding unnamed
  unnamed-same names others same zero = refl
  unnamed-same names others same (suc n) = rw (same n, unnamed-same names others same n)

  module _ (names : List ℕ) (c : ℕ) where
    -- one name more leaves no more
    unnamed-fewer : (n : ℕ) → unnamed (c ∷ names) n ≤ unnamed names n
    unfolding unnamed is_in
    unnamed-fewer zero = lit≤ tt
    unnamed-fewer (suc n) = omega (arith, unnamed-fewer n, fewer (eqb n c) (is_in n names))
      where
        fewer : (a b : Bool) → cond (a || b) 0 (f n) ≤ cond b 0 (f n)
        fewer true b = zero-le
        fewer false b = omega arith

    -- and takes its number away, where it is new
    unnamed-less : is_in c names ≡ false → (n : ℕ) → c < n → unnamed (c ∷ names) n + f c ≤ unnamed names n
    unfolding unnamed is_in
    unnamed-less new zero h = absurd (omega arith)
    unnamed-less new (suc n) h = go (ℕ_discrete n c) (unnamed-less new n)
      where
        go : Dec (n ≡ c) → (c < n → unnamed (c ∷ names) n + f c ≤ unnamed names n) → unnamed (c ∷ names) (suc n) + f c ≤ unnamed names (suc n)
        go (yes e) before =
            let same : is_in n names ≡ false = ap (λ (k : ℕ). is_in k names) e ∙ new in
            rw (eq-eqb n c e, same) (omega (arith, unnamed-fewer n, ap f e))
        go (no d) before = rw (ne_eqb n c d) (omega (arith, before (omega arith)))

  -- the names of one node more take their numbers away
  unnamed-children : (n : ℕ) (names cs : List ℕ) → some_not_smaller n cs ≡ false → some_named_before names cs ≡ false
      → unnamed (names ++ cs) n + sum cs ≤ unnamed names n
  unfolding sum some_not_smaller some_named_before
  unnamed-children n names [] below new = rw append-nil (omega arith)
  unnamed-children n names (c ∷ cs) below new =
      let first = unnamed-less names c (or_parts (is_in c names) (some_named_before (c ∷ names) cs) new).0 n (smaller-parts n c cs below).0 in
      let rest = unnamed-children n (c ∷ names) cs (smaller-parts n c cs below).1 (or_parts (is_in c names) (some_named_before (c ∷ names) cs) new).1 in
      omega (arith, first, rest, unnamed-same (c ∷ names ++ cs) (names ++ c ∷ cs) (λ i. in_moved i names c cs) n)

-- a node's tree has the nodes of its children's trees, and its own
size-node : (t : ℕ → Tree) (n : ℕ) (node : Node) → size (tree t n node) ≡ suc (sum (λ c. size (t c)) (children node))
unfolding size tree sum children
size-node t n Node.unit = refl
size-node t n Node.bottom = refl
size-node t n (Node.bits w) = refl
size-node t n (Node.signed w) = refl
size-node t n (Node.then a b) = omega arith
size-node t n (Node.bind a b) = omega arith
size-node t n (Node.either a b) = omega arith
size-node t n (Node.both a b) = omega arith
size-node t n (Node.where' a r x) = omega arith
size-node t n (Node.sequence e s u x) = omega arith
size-node t n (Node.compute w f x y) = refl
size-node t n (Node.absorb a) = omega arith
size-node t n (Node.scan a) = omega arith

module _ (desc : List ℕ) where
  size_of : ℕ → ℕ
  size_of k = size (tree_of desc k)

  -- what the trees of the nodes that the first n leave unnamed have of the nodes below m
  free : ℕ → ℕ → ℕ
  free n m = unnamed size_of (named_by (nodes_to desc n)) m

  -- a node takes its children's trees
  takes : (n : ℕ) → Stands desc n → free (suc n) n + size_of n ≤ suc (free n n)
  unfolding size_of free nodes_to
  takes n s =
      let node = node_at desc (start desc n) in
      let own : size_of n ≡ suc (sum size_of (children node)) = ap size (tree_of_lem desc n (smaller desc n s)) ∙ size-node (tree_of desc) n node in
      let left = unnamed-children size_of n (named_by (nodes_to desc n)) (children node) (smaller desc n s) (tests desc n s).new in
      omega (arith, own, left, ap (λ l. unnamed size_of l n) (named_snoc (nodes_to desc n) node))

  -- so that what is left unnamed is no more than there is
  free-few : (n : ℕ) → ((k : ℕ) → k < n → Stands desc k) → free n n ≤ n
  unfolding free unnamed
  free-few zero stand = lit≤ tt
  free-few (suc n) stand =
      omega (arith, takes n (stand n (omega arith)), free-few n (λ k h. stand k (omega arith)), few (is_in n (named_by (nodes_to desc (suc n)))))
    where
      few : (b : Bool) → cond b 0 (size_of n) ≤ size_of n
      few true = zero-le
      few false = omega arith

  -- The law, for any number of nodes that stand, as a description's do.
  pub binds-take : (n : ℕ) → 0 < n → ((k : ℕ) → k < n → Stands desc k) → 2 * binds (root_tree (nodes_to desc n)) + 1 ≤ n
  unfolding size_of tree_of
  binds-take zero some stand = absurd (omega arith)
  binds-take (suc n) some stand =
      omega (arith, binds-size (tree_of desc n), takes n (stand n (omega arith)), free-few n (λ k h. stand k (omega arith)))

-- "64 nodes allow 31": so many binds stand around no node of a description.
pub few-binds : (desc : List ℕ) (nodes : List Node) → nodes_from desc most_nodes [] 0 ≡ parsed nodes → binds (root_tree nodes) ≤ most_binds
unfolding most_nodes most_binds
few-binds desc nodes e = let first = first-nodes desc most_nodes nodes e in rw first.are (go (length nodes) first.few first.stand)
  where
    go : (n : ℕ) → n ≤ most_nodes → ((k : ℕ) → k < n → Stands desc k) → binds (root_tree (nodes_to desc n)) ≤ most_binds
    go zero few stand = unfold nodes_to in unfold root_tree in unfold trees_after in unfold binds in lit≤ tt
    go (suc n) few stand = omega (arith, binds-take desc (suc n) (omega arith) stand)

-- The tree of a node whose children are smaller is made of their trees.
use Prim.Native.Nat.{ℕ, suc, ◌+◌, ◌-◌, ◌<◌}
use mathlib.Core.Bool.{false}
use mathlib.Core.List.{List, [], ◌∷◌, ◌++◌}
use mathlib.Core.Path.{◌≡◌, refl, sym, ap, ◌∙◌}
use native.Mathlib.Omega.{arith}
use lib.ListN.{length, get_or, length-append}
use Rattle.description.specs.Check.{some_not_smaller, node_at}
use Rattle.description.specs.Nodes.{Node, children}
use Rattle.description.specs.Places.{start, nodes_to, tree_of}
use Rattle.description.specs.Trees.{Tree, unit, tree, trees_after, root_tree}
use Rattle.description.proofs.Children.{smaller-parts}
use Rattle.description.proofs.Numbered.{grown-at, nodes-length}

-- The tree of the next node, after the trees of those before.
unfoldable pub next : List Tree → Node → Tree
next ts node = tree (λ c. get_or ts c (unit 0)) (length ts) node

pub trees_snoc : (before : List Tree) (ns : List Node) (node : Node) → trees_after before (ns ++ (node ∷ [])) ≡ trees_after before ns ++ (next (trees_after before ns) node ∷ [])
unfolding trees_after next
trees_snoc before [] node = refl
trees_snoc before (n ∷ ns) node = trees_snoc (before ++ (next before n ∷ [])) ns node

trees-length : (before : List Tree) (ns : List Node) → length (trees_after before ns) ≡ length before + length ns
unfolding trees_after next
trees-length before [] = omega arith
trees-length before (n ∷ ns) =
    trees-length (before ++ (next before n ∷ [])) ns ∙ omega (arith, length-append before (next before n ∷ []))

module _ (f g : ℕ → Tree) (n : ℕ) (same : (c : ℕ) → c < n → f c ≡ g c) where
  -- the trees of children below n
  first : (a : ℕ) (cs : List ℕ) → some_not_smaller n (a ∷ cs) ≡ false → f a ≡ g a
  first a cs e = same a (smaller-parts n a cs e).0

  rest : (a : ℕ) (cs : List ℕ) → some_not_smaller n (a ∷ cs) ≡ false → some_not_smaller n cs ≡ false
  rest a cs e = (smaller-parts n a cs e).1

  -- a node's tree depends on its children's trees alone
  same-tree : (k : ℕ) (node : Node) → some_not_smaller n (children node) ≡ false → tree f k node ≡ tree g k node
  unfolding tree children
  same-tree k Node.unit e = refl
  same-tree k Node.bottom e = refl
  same-tree k (Node.bits w) e = refl
  same-tree k (Node.signed w) e = refl
  same-tree k (Node.then a b) e = cc (first a (b ∷ []) e, first b [] (rest a (b ∷ []) e))
  same-tree k (Node.bind a b) e = cc (first a (b ∷ []) e, first b [] (rest a (b ∷ []) e))
  same-tree k (Node.either a b) e = cc (first a (b ∷ []) e, first b [] (rest a (b ∷ []) e))
  same-tree k (Node.both a b) e = cc (first a (b ∷ []) e, first b [] (rest a (b ∷ []) e))
  same-tree k (Node.where' a r x) e = cc (first a [] e)
  same-tree k (Node.sequence a b c x) e =
      cc (first a (b ∷ c ∷ []) e, first b (c ∷ []) (rest a (b ∷ c ∷ []) e), first c [] (rest b (c ∷ []) (rest a (b ∷ c ∷ []) e)))
  same-tree k (Node.compute w o x y) e = refl
  same-tree k (Node.absorb a) e = cc (first a [] e)
  same-tree k (Node.scan a) e = cc (first a [] e)

module _ (desc : List ℕ) where
  -- the trees of the first n nodes
  trees : ℕ → List Tree
  trees n = trees_after [] (nodes_to desc n)

  trees-are : (n : ℕ) → length (trees n) ≡ n
  unfolding trees
  trees-are n = trees-length [] (nodes_to desc n) ∙ omega (arith, nodes-length desc n)

  last-node : ℕ → Tree
  last-node k = next (trees k) (node_at desc (start desc k))

  trees-none : trees 0 ≡ []
  unfolding trees trees_after nodes_to
  trees-none = refl

  trees-more : (k : ℕ) → trees (suc k) ≡ trees k ++ (last-node k ∷ [])
  unfolding trees nodes_to last-node
  trees-more k = trees_snoc [] (nodes_to desc k) (node_at desc (start desc k))

  tree-last : (k : ℕ) → tree_of desc k ≡ last-node k
  unfolding tree_of root_tree trees
  tree-last k =
      let at : length (nodes_to desc (suc k)) - 1 ≡ k = omega (arith, nodes-length desc (suc k)) in
      rw at (grown-at trees last-node trees-none trees-more (suc k) k (unit 0) (omega arith))

  pub tree_of_lem : (k : ℕ) → some_not_smaller k (children (node_at desc (start desc k))) ≡ false → tree_of desc k ≡ tree (tree_of desc) k (node_at desc (start desc k))
  unfolding last-node next
  tree_of_lem k smaller =
      tree-last k
      ∙ ap (λ (m : ℕ). tree (λ c. get_or (trees k) c (unit 0)) m (node_at desc (start desc k))) (trees-are k)
      ∙ same-tree (λ c. get_or (trees k) c (unit 0)) (tree_of desc) k below k (node_at desc (start desc k)) smaller
    where
      below : (c : ℕ) → c < k → get_or (trees k) c (unit 0) ≡ tree_of desc c
      below c h = grown-at trees last-node trees-none trees-more k c (unit 0) h ∙ sym (tree-last c)

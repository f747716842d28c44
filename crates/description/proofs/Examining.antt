-- What a description means, step by step as it is examined, and what a reader then rests on.
use Prim.Native.Nat.{ℕ, zero, suc, ◌+◌, ◌-◌, ◌≤◌, ◌<◌}
use mathlib.Core.Bool.{Bool}
use mathlib.Core.List.{List, []}
use mathlib.Core.Option.{none}
use mathlib.Core.Path.{◌≡◌, sym, ap, subst, ◌∙◌}
use native.Mathlib.Omega.{arith}
use lib.ListN.{length, take}
use lib.Seq.{sets}
use Rattle.description.specs.Binds.{needs, binds}
use Rattle.description.specs.Check.{Parsed, parsed, stopped, nodes_from, first_of, refuse_if, tree_refusal, accepted, refused, meaning}
use Rattle.description.specs.Examine.{examined, starts_after, Readable}
use Rattle.description.specs.Inner.Steps.{judged, counted, Whole}
use Rattle.description.specs.Limits.{most_bytes, most_nodes, most_binds}
use Rattle.description.specs.Nodes.{Node}
use Rattle.description.specs.Places.{start, starts_to, nodes_to, Found, Known, Placed, standing, placed_starts}
use Rattle.description.specs.Trees.{root_tree}
use Rattle.std.specs.Prelude.{IfOk, Result, Ok, Err}
use Rattle.description.specs.declared.Refusal.{Refusal}
use Rattle.description.specs.declared.Refusal.TheVariants.{EmptyOrTooLong}
use Rattle.description.proofs.Enclosing.{few-binds}
use Rattle.description.proofs.Judging.{tree_is}
use Rattle.description.proofs.Numbered.{nodes-length}
use Rattle.description.proofs.Parsing.{from_end}
use Rattle.description.proofs.Standing.{found-placed, found-length, found-known}

-- what the parse's answer says of the parse
pub counted-stopped : (p : Parsed) (r : Refusal) → counted p ≡ Err r → p ≡ stopped r
unfolding counted
counted-stopped p r e = grind arith

-- a number of nodes is said where 9 and 10 find nothing
judged-nodes : (nodes : List Node) (n : ℕ) → judged nodes ≡ Ok n → (tree_refusal nodes ≡ none) × (length nodes ≡ n)
unfolding judged
judged-nodes nodes n e = (grind arith, grind arith)

-- where 9 and 10 find nothing, every operand is bound
clear-tree : (nodes : List Node) → tree_refusal nodes ≡ none → needs (root_tree nodes) ≡ 0
unfolding tree_refusal first_of refuse_if
clear-tree nodes e = grind arith

module _ (d : List ℕ) where
  -- a refused description means that refusal
  pub means-refused : (r : Refusal) → examined d ≡ Err r → meaning d ≡ refused r
  unfolding examined
  means-refused r e = grind arith

  pub examined_empty : length d ≡ 0 → examined d ≡ Err EmptyOrTooLong
  unfolding examined meaning
  examined_empty e = grind arith

  pub examined_long : most_bytes < length d → examined d ≡ Err EmptyOrTooLong
  unfolding examined meaning
  examined_long h = grind arith

  pub starts_long : (starts : List ℕ) → most_bytes < length d → starts_after d starts ≡ starts
  unfolding starts_after
  starts_long starts h = grind arith

  pub starts_short : (starts : List ℕ) → length d ≤ most_bytes → starts_after d starts ≡ placed_starts d starts
  unfolding starts_after
  starts_short starts h = grind arith

  pub starts_empty : (starts : List ℕ) → length d ≡ 0 → starts_after d starts ≡ starts
  unfolding placed_starts starts_to standing
  starts_empty starts e =
      starts_short starts (omega arith)
      ∙ ap (λ p. sets starts 0 (starts_to d (standing p))) (from_end d [] 0 most_nodes (omega arith))

  module _ (some_byte : length d ≡ 0 → ⊥) (short : length d ≤ most_bytes) where
    pub examined-stopped : (r : Refusal) → nodes_from d most_nodes [] 0 ≡ stopped r → examined d ≡ Err r
    unfolding examined meaning
    examined-stopped r e = grind arith

    meaning-accepted : (nodes : List Node) → nodes_from d most_nodes [] 0 ≡ parsed nodes → tree_refusal nodes ≡ none → meaning d ≡ accepted (root_tree nodes)
    unfolding meaning
    meaning-accepted nodes e f = grind arith

    pub examined-judged : (nodes : List Node) → nodes_from d most_nodes [] 0 ≡ parsed nodes → judged nodes ≡ examined d
    unfolding judged examined meaning standing
    examined-judged nodes e = grind arith

    module _ (starts : List ℕ) (flags : List Bool) (n : ℕ) (w : Whole d starts flags n) where
      pub some-node : 0 < n
      unfolding start
      some-node = go n w.ends
        where
          go : (m : ℕ) → length d ≤ start d m → 0 < m
          go zero h = absurd (some_byte (omega arith))
          go (suc m) h = omega arith

      found : tree_refusal (nodes_to d n) ≡ none → Readable d starts n
      found clear =
          let tree = tree_is d flags n w.few some-node w.marks in
          record {
            root =
                record {
                  some-node = some-node;
                  means = meaning-accepted (nodes_to d n) w.nodes-are clear ∙ ap accepted tree;
                  bound = sym (ap needs tree) ∙ clear-tree (nodes_to d n) clear;
                  few-binds = subst (λ t. binds t ≤ most_binds) tree (few-binds d (nodes_to d n) w.nodes-are);
                };
            placed = λ k. found-placed d starts n k short w.few w.found;
          }

      pub readable : (r : Result ℕ Refusal) → r ≡ judged (nodes_to d n) → IfOk r (Readable d starts)
      readable (Err q) e = tt
      readable (Ok m) e =
          let clear = judged-nodes (nodes_to d n) m (sym e) in
          subst (Readable d starts) (sym (nodes-length d n) ∙ clear.1) (found clear.0)

-- what can be read has its nodes in the front of `starts`
module _ (d starts : List ℕ) (n : ℕ) (r : Readable d starts n) where
  last : Placed d starts (n - 1)
  last = r.placed (n - 1) (omega (arith, r.root.some-node))

  all-found : Found d starts n
  all-found =
      let all : n - 1 + 1 ≡ n = omega (arith, r.root.some-node) in
      subst (Found d starts) all last.found

  pub readable-short : length d ≤ most_bytes
  readable-short = last.short

  pub readable-few : n ≤ most_nodes
  readable-few = omega (arith, last.few)

  pub readable-length : length (take n starts) ≡ n
  readable-length = found-length d starts n readable-few all-found

  pub readable-known : (k : ℕ) → k < length (take n starts) → Known d (take n starts) k
  readable-known = found-known d starts n readable-few all-found

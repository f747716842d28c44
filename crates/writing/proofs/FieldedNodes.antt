-- Each node of the tree that an accepted description means has its field among the description's fields, by its number.
use Prim.Native.Nat.{ℕ, zero, suc, ◌-◌, ◌<◌}
use mathlib.Core.Bool.{false}
use mathlib.Core.List.{List, [], ◌∷◌, ◌++◌, map, append_assoc, append-nil}
use mathlib.Core.Path.{◌≡◌, refl, sym, ap, subst, ◌∙◌}
use native.Mathlib.Decide.{ℕ_discrete}
use native.Mathlib.Omega.{arith}
use lib.ListN.{length, get_or, length-append, length-map, get_or-append, get_or-map}
use lib.Seq.{get_or-append_seam, get_or_at}
use Rattle.description.specs.Check.{some_not_smaller, node_at, accepted, meaning}
use Rattle.description.specs.Nodes.{Node, children}
use Rattle.description.specs.Places.{start, nodes_to, Stands}
use Rattle.description.specs.Trees.{Tree, unit, trees_after, root_tree}
use Rattle.description.proofs.Reached.{accepted-nodes}
use Rattle.description.proofs.Refusing.{passed}
use Rattle.description.proofs.Trees.{next, trees_snoc}
use Rattle.writing.specs.Fields.{field_of, fields_of}
use Rattle.writing.specs.declared.Field.{Field}
use Rattle.writing.proofs.Fielded.{Own, Fielded, node_fielded}
use Rattle.writing.proofs.Nodes.{nodes_of_lem}

-- The node that stands after others, whatever comes after it.
own-field : (before : List Node) (node : Node) (more : List Node) → Own (map field_of (before ++ node ∷ more)) (length before) (field_of node)
unfolding field_of
own-field before node more =
    record {
      known = omega (arith, length-map (before ++ node ∷ more) field_of, length-append before (node ∷ more));
      is = get_or-map field_of (before ++ node ∷ more) (length before) Node.unit ∙ ap field_of (get_or-append_seam before node more Node.unit);
    }

-- nodes with their trees, whatever nodes come after them
record AllFielded (before : List Node) (ts : List Tree) : Type 0 where
  many : length ts ≡ length before
  each : (more : List Node) (c : ℕ) → c < length before → Fielded (map field_of (before ++ more)) (get_or ts c (unit 0))

-- one node more
fielded_next : (before : List Node) (ts : List Tree) (node : Node) → AllFielded before ts → some_not_smaller (length before) (children node) ≡ false
    → AllFielded (before ++ (node ∷ [])) (ts ++ (next ts node ∷ []))
unfolding next
fielded_next before ts node all smaller =
    record { many = omega (arith, all.many, length-append before (node ∷ []), length-append ts (next ts node ∷ [])); each = each }
  where
    each : (more : List Node) (c : ℕ) → c < length (before ++ (node ∷ []))
        → Fielded (map field_of ((before ++ (node ∷ [])) ++ more)) (get_or (ts ++ (next ts node ∷ [])) c (unit 0))
    each more c h = rw append_assoc (go (ℕ_discrete c (length before)))
      where
        fields : List Field
        fields = map field_of (before ++ node ∷ more)

        last : Fielded fields (next ts node)
        last = rw all.many (node_fielded fields _ (length before) (all.each (node ∷ more)) node (own-field before node more) smaller)

        go : Dec (c ≡ length before) → Fielded fields (get_or (ts ++ (next ts node ∷ [])) c (unit 0))
        go (yes e) = rw (get_or_at ts (next ts node) [] (unit 0) c (all.many ∙ sym e)) last
        go (no f) =
            let inside : c < length before = omega (arith, length-append before (node ∷ [])) in
            rw (get_or-append ts (next ts node ∷ []) (unit 0) c (omega (arith, all.many))) (all.each (node ∷ more) c inside)

-- and so all that stand
fielded_to : (desc : List ℕ) (n : ℕ) → ((k : ℕ) → k < n → Stands desc k) → AllFielded (nodes_to desc n) (trees_after [] (nodes_to desc n))
unfolding nodes_to
fielded_to desc zero stand = unfold trees_after in record { many = refl; each = λ more c h. absurd (omega arith) }
fielded_to desc (suc n) stand =
    let before = nodes_to desc n in
    let node = node_at desc (start desc n) in
    let smaller = (passed desc before (start desc n) (stand n (omega arith)).clear).smaller in
    rw (trees_snoc [] before node) (fielded_next before (trees_after [] before) node (fielded_to desc n (λ k h. stand k (omega arith))) smaller)

-- The tree of an accepted description.
pub accepted_fielded : (desc : List ℕ) (t : Tree) → meaning desc ≡ accepted t → Fielded (fields_of desc) t
unfolding fields_of root_tree
accepted_fielded desc t e =
    let a = accepted-nodes desc t e in
    let all = subst (λ ns. AllFielded ns (trees_after [] ns)) (sym a.first.are) (fielded_to desc (length a.nodes) a.first.stand) in
    rw (a.root, nodes_of_lem desc t a) (rw append-nil at (all.each [] (length a.nodes - 1) (omega (arith, a.some-node))))

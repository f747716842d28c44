-- Each test of the step is one of `node_refusal`, in its order; what a child's flag says is what its being named is.
use Rattle.std.proofs.Common.{◌≡◌, ℕ, ◌+◌, ◌-◌, ◌≤◌, ◌<◌, List, false, length, take, drop, sym, ap, ◌∙◌, arith, length-take}
use Rattle.std.specs.Prelude.{Result, Ok, Err, OnOk, IsOk}
use Rattle.std.proofs.lemmas.Bool.{false≢true}
use Rattle.description.specs.Bodies.{byte_of, child_count}
use Rattle.description.specs.Check.{some_not_smaller, node_at, node_end, node_refusal, first_of, refuse_if}
use Rattle.description.specs.Inner.Children.{number_children}
use Rattle.description.specs.Inner.Steps.{step_of}
use Rattle.description.specs.Kinds.{byte, row_of}
use Rattle.description.specs.Limits.{most_bytes, most_nodes}
use Rattle.description.specs.Nodes.{children, must_be_numbers}
use Rattle.description.specs.declared.kinds.Kind.{Kind}
use Rattle.description.proofs.Bodies.{byte_below, body_bytes}
use Rattle.description.proofs.Children.{smaller-still}
use Rattle.description.proofs.Cuts.{listed_cut}
use Rattle.description.proofs.Marking.{tested, marking}
use Rattle.description.proofs.Numbered.{nodes-length}
use Rattle.description.proofs.Rows.{children_cut, number_children-at, count-bytes}
use Rattle.description.proofs.nodes.node.Goals as goal

-- a body that is cut out whole
module _ (d : List ℕ) (at bytes : ℕ) (kind : Kind) (is : byte_of kind ≡ byte d at) (b : bytes ≡ (row_of (byte_of kind)).bytes) (whole : at + 1 + bytes ≤ length d)
    (body : List ℕ) (e : body ≡ take (at + 1 + bytes - (at + 1)) (drop (at + 1) d)) where
  listed-is : (row_of (byte_of kind)).listed body 0 ≡ (row_of (byte_of kind)).listed d (at + 1)
  listed-is = rw e (listed_cut d (at + 1) _ kind (omega (arith, b)))

  module _ (count : ℕ) (k : count ≡ child_count (byte_of kind)) where
    kids-are : take count body ≡ children (node_at d at)
    kids-are = rw e (children_cut d at count _ (k ∙ ap child_count is) (omega (arith, count-bytes (byte_of kind))) (omega arith))

    asked-are : number_children (byte_of kind) (take count body) ≡ must_be_numbers (node_at d at)
    asked-are = rw (kids-are, is) (number_children-at d at)

below : (n : ℕ) (cs : List ℕ) → n < most_nodes → false ≡ some_not_smaller n cs → some_not_smaller most_nodes cs ≡ false
below n cs few none = smaller-still n most_nodes cs (omega arith) (sym none)

when-ok : {T E P : Type 0} (r : Result T E) → IsOk r → OnOk r P → P
when-ok (Ok x) e p = p
when-ok (Err x) e p = absurd (false≢true e)

pub overflow_add-end-2 : goal.overflow_add-end-2
unfolding most_bytes
overflow_add-end-2 c = omega (arith, body_bytes)

pub slice_bounds-children-end : goal.slice_bounds-children-end
slice_bounds-children-end c = grind (arith, length-take, count-bytes)

pub returns-in_default : goal.returns-in_default
unfolding step_of node_refusal first_of refuse_if node_end byte
returns-in_default c = record { value = grind (arith, byte_below, nodes-length); marked = grind (arith, byte_below, nodes-length) }

pub returns-in_default-get : goal.returns-in_default-get
unfolding step_of node_refusal first_of refuse_if node_end byte
returns-in_default-get c = record { value = grind (arith, byte_below, nodes-length); marked = grind (arith, byte_below, nodes-length) }

pub returns-then-not-is_listed : goal.returns-then-not-is_listed
unfolding step_of node_refusal first_of refuse_if node_end byte
returns-then-not-is_listed c =
    let f = c.in-Some.ensures.lookup.0 in
    let listed = listed-is _ _ _ _ c.in-Ok.ensures c.bytes.ensures f.1 _ f.2 in
    record { value = grind (arith, byte_below, nodes-length); marked = grind (arith, byte_below, nodes-length) }

pub returns-then-some_not_smaller : goal.returns-then-some_not_smaller
unfolding step_of node_refusal first_of refuse_if node_end byte
returns-then-some_not_smaller c =
    let f = c.in-Some.ensures.lookup.0 in
    let listed = listed-is _ _ _ _ c.in-Ok.ensures c.bytes.ensures f.1 _ f.2 in
    let kids = kids-are _ _ _ _ c.in-Ok.ensures c.bytes.ensures f.1 _ f.2 _ c.children.ensures in
    record { value = grind (arith, byte_below, nodes-length); marked = grind (arith, byte_below, nodes-length) }

pub name_all-requires : goal.name_all-requires
name_all-requires c = below _ _ c.requires.within.1 c.if-some_not_smaller.ensures

pub some_no_number-requires-clause-count : goal.some_no_number-requires-clause-count
some_no_number-requires-clause-count c = grind (arith, length-take, count-bytes)

pub returns-then-is_err : goal.returns-then-is_err
unfolding step_of node_refusal first_of refuse_if node_end byte
returns-then-is_err c =
    let f = c.in-Some.ensures.lookup.0 in
    let listed = listed-is _ _ _ _ c.in-Ok.ensures c.bytes.ensures f.1 _ f.2 in
    let kids = kids-are _ _ _ _ c.in-Ok.ensures c.bytes.ensures f.1 _ f.2 _ c.children.ensures in
    let new = tested _ _ _ c.requires.marks (below _ _ c.requires.within.1 c.if-some_not_smaller.ensures) in
    record { value = grind (arith, byte_below, nodes-length); marked = grind (arith, byte_below, nodes-length) }

pub returns-then-some_no_number : goal.returns-then-some_no_number
unfolding step_of node_refusal first_of refuse_if node_end byte
returns-then-some_no_number c =
    let f = c.in-Some.ensures.lookup.0 in
    let listed = listed-is _ _ _ _ c.in-Ok.ensures c.bytes.ensures f.1 _ f.2 in
    let kids = kids-are _ _ _ _ c.in-Ok.ensures c.bytes.ensures f.1 _ f.2 _ c.children.ensures in
    let new = tested _ _ _ c.requires.marks (below _ _ c.requires.within.1 c.if-some_not_smaller.ensures) in
    let asked = asked-are _ _ _ _ c.in-Ok.ensures c.bytes.ensures f.1 _ f.2 _ c.children.ensures in
    record { value = grind (arith, byte_below, nodes-length); marked = grind (arith, byte_below, nodes-length) }

pub returns : goal.returns
unfolding step_of node_refusal first_of refuse_if node_end byte
returns c =
    let f = c.in-Some.ensures.lookup.0 in
    let listed = listed-is _ _ _ _ c.in-Ok.ensures c.bytes.ensures f.1 _ f.2 in
    let kids = kids-are _ _ _ _ c.in-Ok.ensures c.bytes.ensures f.1 _ f.2 _ c.children.ensures in
    let new = tested _ _ _ c.requires.marks (below _ _ c.requires.within.1 c.if-some_not_smaller.ensures) in
    let asked = asked-are _ _ _ _ c.in-Ok.ensures c.bytes.ensures f.1 _ f.2 _ c.children.ensures in
    let marks = marking _ _ _ c.requires.marks (below _ _ c.requires.within.1 c.if-some_not_smaller.ensures) in
    record {
      value = grind (arith, byte_below, nodes-length);
      marked = λ e. rw (← kids, when-ok _ c.if-is_err.ensures.negation c.name_all.ensures.named_after) marks;
    }

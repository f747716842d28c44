-- Node by node: none of those before is unwritable, and their fields are looked up.
use Rattle.std.proofs.Common.{◌<◌, List, [], ◌∷◌, ◌++◌, sym, ap, ◌∙◌, ap₂, add-one, arith}
use Rattle.std.proofs.lemmas.List.{take_more_set}
use Rattle.std.proofs.lemmas.Result.{err_from_is_err_and}
use Rattle.description.specs.Limits.{most_nodes}
use Rattle.writing.specs.declared.Field.{Field}
use Rattle.writer.specs.Inner.Fields.{fields_to}
use Rattle.writer.proofs.Filling.{fields-none, fields-more, writable-none, writable-more, unwritable_found}
use Rattle.writer.proofs.fields.look_up.Goals as goal
use Rattle.writer.proofs.fields.look_up.Goals.{In-loop-node}

pub loop-node-init : goal.loop-node-init
loop-node-init c = record {
  writable = writable-none _;
  looked_up = sym (fields-none _);
}

pub returns-in_err-fields-clause-unwritable : goal.returns-in_err-fields-clause-unwritable
returns-in_err-fields-clause-unwritable c =
    let none = rw c.in_err-fields.ensures.ok_part at c.of_node.ensures.unwritable in
    let is = err_from_is_err_and c.from_residual.result c.from_residual.ensures.1 in
    rw is.1 (sym (unwritable_found _ _ c.loop-node.node (omega arith) (sym none)))

-- a node that stands is one of the array's
few : (c : In-loop-node) → c.loop-node.node < 64
unfolding most_nodes
few c = (c.args.nodes.now.known c.loop-node.node (omega arith)).few

pub listed : goal.listed
listed c = omega (arith, few (goal.at.listed c).In-loop-node, c.type_inv.fields)

pub bounds-fields-node : goal.bounds-fields-node
bounds-fields-node c = few (goal.at.bounds-fields-node c).In-loop-node

pub loop-node-preserved : goal.loop-node-preserved
loop-node-preserved c =
    let l = c.loop-node in
    let d = c.args.nodes.now.desc.now in
    let few = few (goal.at.loop-node-preserved c).In-loop-node in
    let found = rw c.in_ok-fields.ensures.ok_part at c.of_node.ensures in
    record {
      writable = writable-more d l.node l.invariant.writable (sym found.unwritable);
      looked_up =
          take_more_set l.fields l.node _ (omega arith)
          ∙ ap₂ (λ (fs : List Field) (f : Field). fs ++ f ∷ []) l.invariant.looked_up found.value
          ∙ sym (ap (fields_to d) (add-one l.node) ∙ fields-more d l.node);
    }

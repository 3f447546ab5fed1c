use Rattle.std.proofs.Common.{sym, ap, ◌∙◌}
use Rattle.sm_tree.specs.View.{node_of}
use Rattle.sm_model.specs.Graphs.{shape_entry}
use Rattle.sm_model.specs.GraphView.{HasBodyNode}
use Rattle.sm_model.proofs.NumberedIds.{of_entry}
use Rattle.sm_compile.specs.TraitNodes.{field_of, text_of}
use Rattle.sm_service.proofs.references.reference.Goals as goal

pub returns : goal.returns
returns c = λ s has.
    let body = of_entry c.args.graph.now c.args.shape (λ id e. HasBodyNode (node_of c.properties.result.now) e) c.properties.ensures
    (shape_entry s) has in
    c.text_in_trait.ensures ∙ ap text_of (c.field_of.ensures ∙ sym (ap (field_of c.args.name.now) body))

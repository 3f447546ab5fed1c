use Rattle.std.proofs.Common.{sym, ap, ◌∙◌}
use Rattle.std.specs.List.{list_any}
use Rattle.sm_shapes.specs.TableView.{table_data}
use Rattle.sm_bind.specs.BindingsView.{bound_side}
use Rattle.sm_bind.specs.steps.Growing.{payload_among}
use Rattle.sm_bind.proofs.GrowingBodies.{has_payload}
use Rattle.sm_bind.proofs.documents.structure_body.Goals as goal
use Rattle.sm_bind.specs.Roles.{is_unbound_on}

pub document_body-requires-clause-some : goal.document_body-requires-clause-some
document_body-requires-clause-some c =
    ap (list_any (is_unbound_on (table_data c.args.table.now) (bound_side c.args.side))) (sym c.members-members.ensures)
    ∙ sym c.has_document.ensures ∙ c.if-has_document.true

pub returns-else-has_document : goal.returns-else-has_document
returns-else-has_document c =
    let t = table_data c.args.table.now in
    let side = bound_side c.args.side in
    has_payload t side _ c.args.shape c.requires.grown
    (sym c.if-has_document.false ∙ c.has_document.ensures ∙ ap (list_any (is_unbound_on t side)) c.members-members.ensures)
    (c.payload_shape.ensures ∙ ap (payload_among t) c.members-members.ensures)

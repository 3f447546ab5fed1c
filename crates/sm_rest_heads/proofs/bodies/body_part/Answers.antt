use Rattle.std.proofs.Common.{◌≡◌, false, cond, sym, ap, ◌∙◌}
use Rattle.std.specs.List.{list_any}
use Rattle.sm_shapes.specs.TableData.{members_at}
use Rattle.sm_shapes.specs.TableView.{table_data}
use Rattle.sm_bind.specs.BindingsView.{bound_side}
use Rattle.sm_bind.specs.Roles.{bound_on, has_document, is_unbound_on}
use Rattle.sm_rest_heads.specs.BodyParts.{payload_of, payload_part}
use Rattle.sm_rest_heads.specs.declared.bodies.BodyPart.TheVariants.{Document}
use Rattle.sm_rest_heads.specs.steps.Payloads.{first_payload, payload_stands}
use Rattle.sm_rest_heads.proofs.Payloads.{first_counts, stands_same}
use Rattle.sm_rest_heads.proofs.bodies.body_part.Goals as goal

pub returns-else-has_document : goal.returns-else-has_document
returns-else-has_document c =
    let t = table_data c.args.table.now in
    let side = bound_side c.args.side in
    let b = bound_on t side c.args.shape in
    let none : has_document b ≡ false =
    ap (list_any (is_unbound_on t side)) (sym c.members-members.ensures) ∙ sym c.has_document.ensures ∙ c.if-has_document.false
    in
    let first : c.first_payload.result ≡ payload_of b =
    c.first_payload.ensures ∙ ap (first_payload t) c.members-members.ensures
    ∙ sym (first_counts t side c.args.shape (members_at t c.args.shape))
    in
    c.payload_stands.ensures ∙ ap (payload_stands t) first ∙ stands_same t side c.args.shape (payload_of b)
    ∙ ap (λ d. cond d Document (payload_part b (payload_of b))) (sym none)

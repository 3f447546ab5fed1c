use Rattle.std.proofs.Common.{◌≡◌, sym, ◌∙◌, subst}
use Rattle.sm_shapes.specs.ValueView.{val_of}
use Rattle.sm_protocols.specs.service.ServiceView.{service_data}
use Rattle.sm_protocols.specs.messages.Goals.{goal_of, the_input}
use Rattle.sm_protocols.specs.Forms.{form_of}
use Rattle.sm_protocols.specs.Kept.{protocol_of}
use Rattle.sm_gateway.proofs.ValuesCarried.{carried_of, not_carried_of, refused_uncarried}
use Rattle.sm_gateway.proofs.carrying.ask_whole.Goals as goal

pub write_request-requires-clause-carried : goal.write_request-requires-clause-carried
write_request-requires-clause-carried c =
    carried_of (form_of (protocol_of c.args.gateway.now.back)) (service_data c.args.gateway.now.service)
    (goal_of c.args.operation the_input)
    (val_of c.args.value.now) (sym c.in-Ok-None.field-0-is ∙ c.in-Ok-None.ensures)

pub returns-in-Ok : goal.returns-in-Ok
returns-in-Ok c =
    let far = form_of (protocol_of c.args.gateway.now.back) in
    let s = service_data c.args.gateway.now.service in
    let g = goal_of c.args.operation the_input in
    let v = val_of c.args.value.now in (
      carried_of far s g v (sym c.in-Ok-None.field-0-is ∙ c.in-Ok-None.ensures),
      subst (λ host. c.in-Ok.message ≡ far.written s g host v) c.as_str-host.ensures.bytes c.in-Ok.ensures,
    )

pub returns-in-Ok-Some : goal.returns-in-Ok-Some
returns-in-Ok-Some c =
    let far = form_of (protocol_of c.args.gateway.now.back) in
    let s = service_data c.args.gateway.now.service in
    let g = goal_of c.args.operation the_input in
    let v = val_of c.args.value.now in
    refused_uncarried far s g v c.uncarried_refusal.result c.in-Ok-Some.first c.uncarried_refusal.ensures
    (not_carried_of far s g v c.in-Ok-Some.first (sym c.in-Ok-Some.field-0-is ∙ c.in-Ok-Some.ensures))

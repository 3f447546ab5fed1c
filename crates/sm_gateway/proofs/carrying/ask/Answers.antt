use Rattle.std.proofs.Common.{◌≡◌, ◌++◌, refl, sym, ◌∙◌, subst}
use Rattle.sm_shapes.specs.ValueView.{val_of}
use Rattle.sm_http.specs.Written.{written}
use Rattle.sm_protocols.specs.service.ServiceView.{service_data}
use Rattle.sm_protocols.specs.messages.Goals.{goal_of, the_input}
use Rattle.sm_protocols.specs.Forms.{form_of}
use Rattle.sm_protocols.specs.Kept.{protocol_of}
use Rattle.sm_gateway.proofs.ValuesCarried.{answered_uncarried, carried_of, not_carried_of}
use Rattle.sm_gateway.proofs.carrying.ask.Goals as goal

pub append_request-requires-clause-carried : goal.append_request-requires-clause-carried
append_request-requires-clause-carried c =
    carried_of (form_of (protocol_of c.args.gateway.now.back)) (service_data c.args.gateway.now.service)
    (goal_of c.args.operation the_input)
    (val_of c.args.value.now) (sym c.in-Ok-None.field-0-is ∙ c.in-Ok-None.ensures)

pub returns-in-Ok : goal.returns-in-Ok
returns-in-Ok c =
    let far = form_of (protocol_of c.args.gateway.now.back) in
    let s = service_data c.args.gateway.now.service in
    let g = goal_of c.args.operation the_input in
    let v = val_of c.args.value.now in (
      carried_of far s g v (sym c.in-Ok-None.field-0-is ∙ c.in-Ok-None.ensures),
      subst (λ host. c.append_request.new.out.items ≡ c.args.out.now.items ++ written (far.written s g host v)) c.as_str-host.ensures.bytes
          c.in-Ok.ensures.written,
      refl,
    )

pub returns-in-Ok-refused_answer : goal.returns-in-Ok-refused_answer
returns-in-Ok-refused_answer c =
    let (more, are) = not_carried_of (form_of (protocol_of c.args.gateway.now.back)) (service_data c.args.gateway.now.service)
    (goal_of c.args.operation the_input) (val_of c.args.value.now) c.in-Ok-Some.path
    (sym c.in-Ok-Some.field-0-is ∙ c.in-Ok-Some.ensures) in (
      c.in-Ok-Some.path,
      more,
      are,
      answered_uncarried c.uncarried_refusal.result c.in-Ok-Some.path c.in-Ok-refused_answer.answer c.uncarried_refusal.ensures
          c.in-Ok-refused_answer.ensures,
    )

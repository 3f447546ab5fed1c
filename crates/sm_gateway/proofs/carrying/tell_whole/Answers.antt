use Rattle.std.proofs.Common.{sym, ◌∙◌}
use Rattle.sm_protocols.specs.service.ServiceView.{service_data}
use Rattle.sm_protocols.specs.messages.Answers.{reply_role, reply_val}
use Rattle.sm_protocols.specs.messages.Goals.{goal_of}
use Rattle.sm_protocols.specs.Forms.{form_of}
use Rattle.sm_protocols.specs.Kept.{protocol_of}
use Rattle.sm_gateway.proofs.ValuesCarried.{carried_of, not_carried_of, refused_uncarried}
use Rattle.sm_gateway.proofs.carrying.tell_whole.Goals as goal

pub write_response-requires-clause-carried : goal.write_response-requires-clause-carried
write_response-requires-clause-carried c =
    carried_of (form_of (protocol_of c.args.gateway.now.front)) (service_data c.args.gateway.now.service)
    (goal_of c.args.operation (reply_role c.args.reply.now)) (reply_val c.args.reply.now)
    (sym c.in-Ok-None.field-0-is ∙ c.in-Ok-None.ensures)

pub returns-in-Ok : goal.returns-in-Ok
returns-in-Ok c host = (
  carried_of (form_of (protocol_of c.args.gateway.now.front)) (service_data c.args.gateway.now.service)
      (goal_of c.args.operation (reply_role c.args.reply.now)) (reply_val c.args.reply.now)
      (sym c.in-Ok-None.field-0-is ∙ c.in-Ok-None.ensures),
  c.in-Ok.ensures host,
)

pub returns-in-Ok-Some : goal.returns-in-Ok-Some
returns-in-Ok-Some c host =
    let far = form_of (protocol_of c.args.gateway.now.front) in
    let s = service_data c.args.gateway.now.service in
    let g = goal_of c.args.operation (reply_role c.args.reply.now) in
    let v = reply_val c.args.reply.now in
    refused_uncarried far s g v c.uncarried_refusal.result c.in-Ok-Some.path c.uncarried_refusal.ensures
    (not_carried_of far s g v c.in-Ok-Some.path (sym c.in-Ok-Some.field-0-is ∙ c.in-Ok-Some.ensures))

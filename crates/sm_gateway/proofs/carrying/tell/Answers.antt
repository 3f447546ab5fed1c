use Rattle.std.proofs.Common.{inl}
use Rattle.sm_protocols.specs.service.ServiceView.{service_data}
use Rattle.sm_protocols.specs.messages.Answers.{reply_role, reply_val}
use Rattle.sm_protocols.specs.messages.Goals.{goal_of}
use Rattle.sm_protocols.specs.Forms.{form_of}
use Rattle.sm_protocols.specs.Kept.{protocol_of}
use Rattle.sm_gateway.proofs.ValuesCarried.{told_uncarried}
use Rattle.sm_gateway.proofs.carrying.tell.Goals as goal

pub returns-in-Ok : goal.returns-in-Ok
returns-in-Ok c host = inl (c.in-Ok.ensures host)

pub returns-in-Err : goal.returns-in-Err
returns-in-Err c host =
    told_uncarried (form_of (protocol_of c.args.gateway.now.front)) (service_data c.args.gateway.now.service) host
    (goal_of c.args.operation (reply_role c.args.reply.now)) (reply_val c.args.reply.now) c.in-Err.refusal
    c.back_refused_answer.result (c.in-Err.ensures host) c.back_refused_answer.ensures

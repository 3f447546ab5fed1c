use Rattle.std.proofs.Common.{sym, subst}
use Rattle.sm_awsjson.specs.service.ServiceView.{service_data}
use Rattle.sm_awsjson.specs.messages.HeadAnswers.{IsNamed}
use Rattle.sm_protocols.specs.Forms.{form_of}
use Rattle.sm_protocols.specs.Kept.{protocol_of}
use Rattle.sm_protocols.proofs.heads.operation_of.Goals as goal

pub returns-in-RestJson1 : goal.returns-in-RestJson1
returns-in-RestJson1 c =
    subst (λ p. IsNamed (form_of (protocol_of p)) (service_data c.args.service.now) c.args.head.now c.operation_of-in-RestJson1.result)
    (sym c.in-RestJson1.is) c.operation_of-in-RestJson1.ensures

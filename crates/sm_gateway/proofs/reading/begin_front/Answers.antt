use Rattle.std.proofs.Common.{◌<◌, length, subst}
use Rattle.sm_protocols.specs.service.ServiceView.{service_data}
use Rattle.sm_protocols.specs.Forms.{form_of}
use Rattle.sm_protocols.specs.Kept.{protocol_of}
use Rattle.sm_gateway.specs.GatewayView.{gateway_data}
use Rattle.sm_gateway.specs.steps.Reading.{both_spoken}
use Rattle.sm_gateway.proofs.HeadsTowards.{head_goes}
use Rattle.sm_gateway.proofs.MessagesBegun.{front_begun}
use Rattle.sm_gateway.proofs.reading.begin_front.Goals as goal

pub admitted-requires : goal.admitted-requires
admitted-requires c =
    let reads = c.requires.reads.front in
    let s = service_data c.args.gateway.now.service in
    let head = c.args.head.now in
    let (x, same) = head_goes (form_of (protocol_of c.args.gateway.now.front)) reads s head c.args.empty c.in-Ok.operation
    c.in-Ok.ensures.0 in
    subst (λ k. k < length s.operations) same (reads.within s head x.operation (reads.asked_for s head x.operation x.goes))

pub returns-in-Ok : goal.returns-in-Ok
returns-in-Ok c = λ test serves.
    front_begun (both_spoken c.args.gateway.now) (gateway_data c.args.gateway.now) test serves c.requires.reads c.args.head.now
    c.args.empty c.in-Ok.operation c.in-Ok.body
    c.admitted.result c.in-Ok.ensures.0 (c.in-Ok.ensures.1 test) c.admitted.ensures

use Rattle.sm_gateway.specs.GatewayData.{back_form, front_form}
use Rattle.sm_gateway.specs.GatewayView.{gateway_data}
use Rattle.sm_gateway.proofs.MessagesFinished.{asked_served}
use Rattle.sm_gateway.proofs.ValuesKept.{far_serves}
use Rattle.sm_gateway.proofs.responder.CrossingsResponder.begin_reply.Goals as goal

pub begin_back-requires-clause-served : goal.begin_back-requires-clause-served
begin_back-requires-clause-served g c =
    let (m, asked) = c.requires.asked in
    let stands = c.requires.stands.0 in
    let gw = gateway_data c.args.self.now.gateway.now in
    far_serves (front_form gw) (back_form gw) gw.service c.args.call.operation
    (asked_served gw g.P.Patterns.test stands.0 stands.1 c.args.call.operation m asked)

pub returns-clause-reads : goal.returns-clause-reads
returns-clause-reads g c = c.begin_back.ensures g.P.Patterns.test c.requires.stands.0.0

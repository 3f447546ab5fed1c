use Rattle.sm_shapes.specs.ValueView.{val_of}
use Rattle.sm_protocols.specs.messages.Goals.{goal_of, the_input}
use Rattle.sm_gateway.specs.GatewayData.{back_form, front_form}
use Rattle.sm_gateway.specs.GatewayView.{gateway_data}
use Rattle.sm_gateway.specs.steps.Reading.{both_spoken}
use Rattle.sm_gateway.proofs.MessagesFinished.{request_asked, request_stays, request_value}
use Rattle.sm_gateway.proofs.ValuesKept.{far_serves}
use Rattle.sm_gateway.proofs.responder.CrossingsResponder.finish_request.Goals as goal

pub ask-requires-clause-served : goal.ask-requires-clause-served
ask-requires-clause-served g c =
    let (m, x) = c.requires.whole in
    let stands = c.requires.stands.0 in
    let gw = gateway_data c.args.self.now.gateway.now in
    far_serves (front_form gw) (back_form gw) gw.service c.in-Ok.operation
    (request_value gw g.P.Patterns.test stands.0 stands.1 m (goal_of c.in-Ok.operation the_input) (val_of c.in-Ok.value)
    (c.in-Ok.ensures.answers m x)).served

pub ask-requires-clause-fits : goal.ask-requires-clause-fits
ask-requires-clause-fits g c =
    let (m, x) = c.requires.whole in
    let stands = c.requires.stands.0 in
    (request_value (gateway_data c.args.self.now.gateway.now) g.P.Patterns.test stands.0 stands.1 m
    (goal_of c.in-Ok.operation the_input) (val_of c.in-Ok.value) (c.in-Ok.ensures.answers m x)).fits_any

pub returns-in-Ok-clause-comes : goal.returns-in-Ok-clause-comes
returns-in-Ok-clause-comes g c =
    request_asked (both_spoken c.args.self.now.gateway.now) (gateway_data c.args.self.now.gateway.now) g.P.Patterns.test
    c.requires.stands.0 c.args.body c.in-Ok.operation c.in-Ok.value
    c.args.out.now.items c.ask.new.out.items c.ask.result c.in-Ok.ensures.answers c.ask.ensures

pub returns-in-Ok-refused_answer-clause-comes : goal.returns-in-Ok-refused_answer-clause-comes
returns-in-Ok-refused_answer-clause-comes g c =
    request_stays (both_spoken c.args.self.now.gateway.now) (gateway_data c.args.self.now.gateway.now) g.P.Patterns.test
    c.requires.stands.0 c.args.body c.in-Err.refusal
    c.in-Ok-refused_answer.answer c.args.out.now.items c.args.out.now.items c.in-Err.ensures.answers c.in-Ok-refused_answer.ensures

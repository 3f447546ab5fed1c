use Rattle.sm_protocols.specs.messages.Answers.{reply_role, reply_val}
use Rattle.sm_protocols.specs.messages.Goals.{goal_of}
use Rattle.sm_gateway.specs.GatewayView.{gateway_data}
use Rattle.sm_gateway.specs.steps.Reading.{both_spoken}
use Rattle.sm_gateway.proofs.MessagesFinished.{reply_stays, reply_told, reply_value}
use Rattle.sm_gateway.proofs.responder.CrossingsResponder.finish_reply.Goals as goal

pub tell-requires-clause-goal : goal.tell-requires-clause-goal
tell-requires-clause-goal g c =
    let (m, said, x) = c.requires.whole in
    let stands = c.requires.stands.0 in
    let told = c.in-Ok.ensures.answers m said x in
    (reply_value (gateway_data c.args.self.now.gateway.now) g.P.Patterns.test stands.0 stands.1 c.in-Ok.operation m said
    (goal_of c.in-Ok.operation (reply_role c.in-Ok.reply)) (reply_val c.in-Ok.reply) told.0 told.1).near_goal.goal

pub tell-requires-clause-fits : goal.tell-requires-clause-fits
tell-requires-clause-fits g c =
    let (m, said, x) = c.requires.whole in
    let stands = c.requires.stands.0 in
    let told = c.in-Ok.ensures.answers m said x in
    (reply_value (gateway_data c.args.self.now.gateway.now) g.P.Patterns.test stands.0 stands.1 c.in-Ok.operation m said
    (goal_of c.in-Ok.operation (reply_role c.in-Ok.reply)) (reply_val c.in-Ok.reply) told.0 told.1).fits_any

pub returns-in-Ok-clause-replies : goal.returns-in-Ok-clause-replies
returns-in-Ok-clause-replies g c =
    let gw = gateway_data c.args.self.now.gateway.now in
    reply_told (both_spoken c.args.self.now.gateway.now) gw g.P.Patterns.test c.requires.stands.0 c.args.body c.in-Ok.operation
    c.in-Ok.reply c.tell.result c.in-Ok.ensures.answers
    (c.tell.ensures gw.host)

pub returns-in-Err-clause-replies : goal.returns-in-Err-clause-replies
returns-in-Err-clause-replies g c =
    reply_stays (both_spoken c.args.self.now.gateway.now) (gateway_data c.args.self.now.gateway.now) g.P.Patterns.test c.requires.stands.0
    c.args.body c.in-Err.refusal
    c.back_refused_answer.result c.in-Err.ensures.answers c.back_refused_answer.ensures

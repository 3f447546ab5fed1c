use Rattle.sm_session.specs.Sessions.{turn_limit}
use Rattle.sm_session.specs.Turns.{TurnBy}
use Rattle.sm_gateway.specs.GatewayTurns.{GatewayAsks, GatewayReplies, gateway_turn}
use Rattle.sm_gateway.specs.GatewayView.{gateway_data}
use Rattle.sm_gateway.specs.steps.Reading.{AsksSo, RepliesSo, Stands}
use Rattle.sm_gateway.proofs.GatewayLaws.{asks_so, replies_so, some_asked_so, some_reply_so}
use Rattle.sm_gateway.proofs.SessionsAlike.{run_alike, turn_alike}
use Rattle.sm_gateway.proofs.serving.serve_session.Goals as goal

pub invariant_of-responder : goal.invariant_of-responder
invariant_of-responder g c =
    let gw = gateway_data c.args.gateway.now in
    let test = g.P.Patterns.test in
    let stands : Stands gw test =
    (c.requires.serves, record { front = (c.each_is_form.ensures gw.front).reads; back = (c.each_is_form.ensures gw.back).reads }) in
    record { some_asked = some_asked_so gw test stands; some_reply = some_reply_so gw test stands }

pub run_session-requires : goal.run_session-requires
run_session-requires g c =
    let gw = gateway_data c.args.gateway.now in
    let stands : Stands gw g.P.Patterns.test =
    (c.requires.serves, record { front = (c.each_is_form.ensures gw.front).reads; back = (c.each_is_form.ensures gw.back).reads }) in
    record { stands = (stands, c.requires.stored, c.requires.kept) }

pub returns-clause-session : goal.returns-clause-session
returns-clause-session g c =
    let gw = gateway_data c.args.gateway.now in
    let test = g.P.Patterns.test in
    let stands : Stands gw test =
    (c.requires.serves, record { front = (c.each_is_form.ensures gw.front).reads; back = (c.each_is_form.ensures gw.back).reads }) in
    run_alike (TurnBy (AsksSo gw test) (RepliesSo gw test)) (gateway_turn gw test)
    (turn_alike (AsksSo gw test) (GatewayAsks gw test) (RepliesSo gw test) (GatewayReplies gw test) (λ m a x. x.0) (λ m said a x. x.0))
    (turn_alike (GatewayAsks gw test) (AsksSo gw test) (GatewayReplies gw test) (RepliesSo gw test) (asks_so gw test stands)
    (replies_so gw test stands))
    turn_limit _ _ c.run_session.result c.run_session.ensures.session

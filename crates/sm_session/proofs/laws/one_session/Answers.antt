use Rattle.sm_http.specs.declared.message.MessageSide.TheVariants.{Request as of_requests, Response as of_responses}
use Rattle.sm_session.specs.Turns.{TurnBy}
use Rattle.sm_session.proofs.TurnsOnce.{one_turn_said}
use Rattle.sm_session.proofs.SessionsOnce.{one_session_said}
use Rattle.sm_session.proofs.laws.one_session.Goals as goal

pub returns : goal.returns
returns g c =
    let r = c.args.responder.now in
    let asking = g.R.Responder.asking r in
    let replying = g.R.Responder.replying r in
    one_session_said (TurnBy asking replying) (c.one_answer.ensures of_requests)
    (one_turn_said asking replying (g.met.R.Responder.one_asked r) (g.met.R.Responder.one_reply r) (c.one_answer.ensures of_responses))

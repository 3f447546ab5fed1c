use Rattle.std.proofs.Common.{[], subst, sym, None}
use Rattle.std.specs.Io.KnownBytes.{prepend_known}
use Rattle.sm_io.specs.Seen.{stream}
use Rattle.sm_session.specs.Turns.{asks}
use Rattle.sm_session.specs.Responding.{ComesTo}
use Rattle.sm_session.proofs.SessionRuns.{appends_none}
use Rattle.sm_session.proofs.BackAnswers.{replies_answer, answers_at_once}
use Rattle.sm_session.proofs.turning.answer_request.Goals as goal

pub returns-in-Answered-clause-comes : goal.returns-in-Answered-clause-comes
returns-in-Answered-clause-comes g c m x = (
  None,
  answers_at_once (g.R.Responder.asking c.args.responder.now) (g.R.Responder.replying c.args.responder.now) m c.in-Answered.answer
      (prepend_known c.args.held.now (g.C.Source.left c.args.back_in.now))
      (subst (ComesTo (g.R.Responder.asking c.args.responder.now) (g.R.Responder.calls c.args.responder.now) m [] c.args.text.now)
      c.in-Answered.is x),
  tt,
  appends_none (g.D.Sink.written c.args.back_out.now),
)

pub returns-clause-comes : goal.returns-clause-comes
returns-clause-comes g c m x =
    let asking = g.R.Responder.asking c.args.responder.now in
    let comes = subst (ComesTo asking (g.R.Responder.calls c.args.responder.now) m [] c.args.text.now) c.in-Asking.is x in
    replies_answer asking (g.R.Responder.replying c.args.responder.now) (g.R.Responder.calls c.args.responder.now c.in-Asking.call) m
    c.args.text.now (stream (prepend_known c.args.held.now (g.C.Source.left c.args.back_in.now)) (g.C.Source.faults c.args.back_in.now))
    (stream (prepend_known c.hear_back.new.held (g.C.Source.left c.hear_back.new.back_in)) (g.C.Source.faults c.hear_back.new.back_in))
    (g.C.Source.left c.hear_back.new.back_in)
    (stream (g.D.Sink.written c.args.back_out.now) (g.D.Sink.faults c.args.back_out.now))
    (stream (g.D.Sink.written c.put.new.self) (g.D.Sink.faults c.put.new.self)) c.hear_back.result
    (subst (λ s. asking m (asks s)) (sym comes.2) comes.1) comes.3 c.in-Ok.ensures.bytes c.hear_back.ensures.replies

pub hear_back-requires-clause-asked : goal.hear_back-requires-clause-asked
hear_back-requires-clause-asked g c =
    let r = c.args.responder.now in
    let m = c.requires.read.0 in
    let comes = subst (ComesTo (g.R.Responder.asking r) (g.R.Responder.calls r) m [] c.args.text.now) c.in-Asking.is c.requires.read.1 in
    (m, comes.3)

use Rattle.std.proofs.Common.{ap, Err}
use Rattle.std.specs.Io.KnownBytes.{prepend_known}
use Rattle.sm_io.specs.Seen.{stream}
use Rattle.sm_session.proofs.BackAnswers.{refusal_replies}
use Rattle.sm_session.proofs.turning.hear_back.Goals as goal

pub returns-in-Err-clause-replies : goal.returns-in-Err-clause-replies
returns-in-Err-clause-replies g c =
    refusal_replies (g.R.Responder.replying c.args.responder.now) (g.R.Responder.calls c.args.responder.now c.args.call)
    (stream (prepend_known c.args.held.now (g.C.Source.left c.args.back_in.now)) (g.C.Source.faults c.args.back_in.now))
    (stream (prepend_known c.take_reply.new.held (g.C.Source.left c.take_reply.new.source)) (g.C.Source.faults c.take_reply.new.source))
    (g.C.Source.left c.take_reply.new.source) c.in-Err.why c.lose_back.result c.in-Err.ensures.bytes
    (λ is. c.in-Err.ensures.cause (ap Err is)) c.lose_back.ensures

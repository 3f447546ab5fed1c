use Rattle.std.proofs.Common.{arith, refl, ap, suc, Err}
use Rattle.std.specs.Io.KnownBytes.{prepend_known}
use Rattle.sm_io.proofs.Told.{loses_none}
use Rattle.sm_http.specs.declared.message.MessageSide.TheVariants.{Request as of_requests, Response as of_responses}
use Rattle.sm_session.specs.Turns.{TurnBy}
use Rattle.sm_session.specs.steps.Feeding.{message_of}
use Rattle.sm_session.proofs.TurnsOnce.{one_turn_said}
use Rattle.sm_session.proofs.SessionsOnce.{one_session_said}
use Rattle.sm_session.proofs.SessionRuns.{appends_none}
use Rattle.sm_session.proofs.TurnExits.{closed_run}
use Rattle.sm_session.proofs.TurnsEnded.{front_refused_run}
use Rattle.sm_session.proofs.TurnSteps.{loses_held, held_used, comes_alone, unheard_run, finishes_run}
use Rattle.sm_session.proofs.serving.run_turn.Goals as goal

pub returns-in-Ok-None-clause-runs : goal.returns-in-Ok-None-clause-runs
returns-in-Ok-None-clause-runs g c =
    let r = c.args.responder.now in
    let asking = g.R.Responder.asking r in
    let replying = g.R.Responder.replying r in
    let once = one_turn_said asking replying (g.met.R.Responder.one_asked r) (g.met.R.Responder.one_reply r)
    (c.one_answer.ensures of_responses) in
    let front = g.A.Source.left c.take_request.new.source in
    let back = g.C.Source.left c.args.back_in.now in
    let none = rw c.in-Ok-None.field-0-is at c.in-Ok-None.ensures.bytes in
    closed_run (TurnBy asking replying) (suc c.args.after) _ _ (prepend_known c.take_request.new.held front)
    (one_session_said (TurnBy asking replying) (c.one_answer.ensures of_requests) once)
    (record {
      front_taken = loses_held c.args.lanes.now.front_held (g.A.Source.left c.args.front_in.now) front c.take_request.ensures.taken;
      back_taken = loses_held c.args.lanes.now.back_held back back (loses_none back);
      counts = record { front_in = c.take_request.ensures.later; front_out = omega arith; back_in = omega arith; back_out = omega arith };
    })
    none (appends_none (g.B.Sink.written c.args.front_out.now)) (appends_none (g.D.Sink.written c.args.back_out.now))

pub returns-in-Err-clause-runs : goal.returns-in-Err-clause-runs
returns-in-Err-clause-runs g c =
    let r = c.args.responder.now in
    let asking = g.R.Responder.asking r in
    let replying = g.R.Responder.replying r in
    let once = one_turn_said asking replying (g.met.R.Responder.one_asked r) (g.met.R.Responder.one_reply r)
    (c.one_answer.ensures of_responses) in
    let front = g.A.Source.left c.take_request.new.source in
    let back = g.C.Source.left c.args.back_in.now in
    front_refused_run (TurnBy asking replying) (suc c.args.after) _ _ c.in-Err.why c.refuse_front.result
    (one_session_said (TurnBy asking replying) (c.one_answer.ensures of_requests) once)
    (record {
      front_taken = loses_held c.args.lanes.now.front_held (g.A.Source.left c.args.front_in.now) front c.take_request.ensures.taken;
      back_taken = loses_held c.args.lanes.now.back_held back back (loses_none back);
      counts = record {
        front_in = c.take_request.ensures.later;
        front_out = c.refuse_front.ensures.later;
        back_in = omega arith;
        back_out = omega arith;
      };
    })
    (λ is. c.in-Err.ensures.cause (ap Err is)) c.in-Err.ensures.bytes c.refuse_front.ensures.refused
    (appends_none (g.D.Sink.written c.args.back_out.now))

-- the back wasn't asked, or not heard
pub returns-in-Err-answer_request-clause-runs : goal.returns-in-Err-answer_request-clause-runs
returns-in-Err-answer_request-clause-runs g c =
    let r = c.args.responder.now in
    let asking = g.R.Responder.asking r in
    let front = g.A.Source.left c.take_request.new.source in
    let back = g.C.Source.left c.answer_request.new.back_in in
    let taken = rw c.in-Ok-Some.field-0-is at c.in-Ok-Some.ensures.bytes in
    let m = message_of c.in-Ok-Some.taken.0 taken.0 in
    unheard_run asking (g.R.Responder.replying r) c.args.after _ _ (prepend_known c.take_request.new.held front)
    (prepend_known c.answer_request.new.held back) m c.take_request.new.held c.in-Err-answer_request.end
    (g.met.R.Responder.one_asked r) (c.one_answer.ensures of_requests)
    (record {
      front_taken = loses_held c.args.lanes.now.front_held (g.A.Source.left c.args.front_in.now) front c.take_request.ensures.taken;
      back_taken = loses_held c.args.lanes.now.back_held (g.C.Source.left c.args.back_in.now) back c.answer_request.ensures.taken;
      counts = record {
        front_in = c.take_request.ensures.later;
        front_out = omega arith;
        back_in = c.answer_request.ensures.later;
        back_out = c.answer_request.ensures.put_later;
      };
    })
    taken.1 (held_used c.take_request.new.held front) (appends_none (g.B.Sink.written c.args.front_out.now))
    (c.in-Err-answer_request.ensures.comes m
    (comes_alone asking (g.R.Responder.calls r) m c.clear.new.self.items c.take_request.new.out.items c.as_slice.result.now
    c.in-Ok-Some.taken.1 c.clear.ensures.items c.as_slice.ensures.value taken.2))

-- there is an answer
pub returns-clause-runs : goal.returns-clause-runs
returns-clause-runs g c =
    let r = c.args.responder.now in
    let asking = g.R.Responder.asking r in
    let replying = g.R.Responder.replying r in
    let once = one_turn_said asking replying (g.met.R.Responder.one_asked r) (g.met.R.Responder.one_reply r)
    (c.one_answer.ensures of_responses) in
    let front = g.A.Source.left c.take_request.new.source in
    let back = g.C.Source.left c.answer_request.new.back_in in
    let taken = rw c.in-Ok-Some.field-0-is at c.in-Ok-Some.ensures.bytes in
    let m = message_of c.in-Ok-Some.taken.0 taken.0 in
    finishes_run asking replying c.args.after _ _ _ m c.in-Ok.answered c.finish_turn.result (c.one_answer.ensures of_requests) once
    (one_session_said (TurnBy asking replying) (c.one_answer.ensures of_requests) once)
    (record {
      front_taken = loses_held c.args.lanes.now.front_held (g.A.Source.left c.args.front_in.now) front c.take_request.ensures.taken;
      back_taken = loses_held c.args.lanes.now.back_held (g.C.Source.left c.args.back_in.now) back c.answer_request.ensures.taken;
      counts = record {
        front_in = c.take_request.ensures.later;
        front_out = c.finish_turn.ensures.later;
        back_in = c.answer_request.ensures.later;
        back_out = c.answer_request.ensures.put_later;
      };
    })
    refl refl refl refl taken.1
    (c.in-Ok.ensures.comes m
    (comes_alone asking (g.R.Responder.calls r) m c.clear.new.self.items c.take_request.new.out.items c.as_slice.result.now
    c.in-Ok-Some.taken.1 c.clear.ensures.items c.as_slice.ensures.value taken.2))
    c.finish_turn.ensures.finishes

pub answer_request-requires-clause-read : goal.answer_request-requires-clause-read
answer_request-requires-clause-read g c =
    let r = c.args.responder.now in
    let taken = rw c.in-Ok-Some.field-0-is at c.in-Ok-Some.ensures.bytes in
    let m = message_of c.in-Ok-Some.taken.0 taken.0 in (
      m,
      comes_alone (g.R.Responder.asking r) (g.R.Responder.calls r) m c.clear.new.self.items c.take_request.new.out.items
          c.as_slice.result.now c.in-Ok-Some.taken.1 c.clear.ensures.items c.as_slice.ensures.value taken.2,
    )

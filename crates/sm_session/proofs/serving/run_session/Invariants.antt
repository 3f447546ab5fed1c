-- What was played so far, and put.
use Rattle.std.proofs.Common.{suc}
use Rattle.std.specs.Io.KnownBytes.{prepend_known}
use Rattle.sm_io.specs.Seen.{stream, link_seen}
use Rattle.sm_session.specs.Turns.{TurnBy}
use Rattle.sm_session.specs.Sessions.{turn_limit}
use Rattle.sm_session.proofs.SessionRuns.{PutSoFar}
use Rattle.sm_session.proofs.serving.run_session.Given as goal

abbrev pub invariant-loop-after : goal.invariant-loop-after
invariant-loop-after g l = record {
  so_far : PutSoFar (TurnBy (g.R.Responder.asking l.responder) (g.R.Responder.replying l.responder)) turn_limit (suc l.after)
      (link_seen (stream (g.A.Source.left l.fn.front_in) (g.A.Source.faults l.fn.front_in))
      (stream (g.B.Sink.written l.fn.front_out) (g.B.Sink.faults l.fn.front_out))
      (stream (g.C.Source.left l.fn.back_in) (g.C.Source.faults l.fn.back_in))
      (stream (g.D.Sink.written l.fn.back_out) (g.D.Sink.faults l.fn.back_out)))
      (link_seen (stream (prepend_known l.lanes.front_held (g.A.Source.left l.front_in)) (g.A.Source.faults l.front_in))
      (stream (g.B.Sink.written l.front_out) (g.B.Sink.faults l.front_out))
      (stream (prepend_known l.lanes.back_held (g.C.Source.left l.back_in)) (g.C.Source.faults l.back_in))
      (stream (g.D.Sink.written l.back_out) (g.D.Sink.faults l.back_out)));
  stands : g.R.Responder.stands l.responder l.store;
  alike : g.R.Responder.alike l.responder l.fn.store l.store;
}

abbrev pub decreases-loop-after : goal.decreases-loop-after
decreases-loop-after g l = l.after

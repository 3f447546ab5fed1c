use Rattle.std.proofs.Common.{suc}
use Rattle.sm_io.specs.Seen.{stream}
use Rattle.sm_session.specs.Turns.{TurnBy}
use Rattle.sm_session.specs.Sessions.{turn_limit}
use Rattle.sm_session.proofs.SessionRuns.{run_behind}
use Rattle.sm_session.proofs.SessionTurns.{nothing_so_far, unheld, one_more, fewer}
use Rattle.sm_session.proofs.serving.run_session.Goals as goal

pub loop-after-init : goal.loop-after-init
loop-after-init g c =
    let r = c.args.responder.now in
    record {
      so_far = nothing_so_far (TurnBy (g.R.Responder.asking r) (g.R.Responder.replying r)) turn_limit _ _
          (unheld (g.A.Source.left c.args.front_in.now) (g.C.Source.left c.args.back_in.now) (g.A.Source.faults c.args.front_in.now)
          (g.C.Source.faults c.args.back_in.now) c.new.result c.new-2.result
          (stream (g.B.Sink.written c.args.front_out.now) (g.B.Sink.faults c.args.front_out.now))
          (stream (g.D.Sink.written c.args.back_out.now) (g.D.Sink.faults c.args.back_out.now)) c.new.ensures c.new-2.ensures);
      stands = c.requires.stands;
      alike = g.met.R.Responder.alike_itself r c.args.store.now;
    }

pub loop-after-preserved : goal.loop-after-preserved
loop-after-preserved g c =
    let r = c.args.responder.now in
    let turning = TurnBy (g.R.Responder.asking r) (g.R.Responder.replying r) in
    record {
      so_far = fewer turning turn_limit c.loop-after.after _ _ c.in-None.ensures.runs.more
          (one_more turning turn_limit c.loop-after.after _ _ _ c.loop-after.invariant.so_far c.in-None.ensures.runs);
      stands = g.met.R.Responder.alike_stands r c.loop-after.store c.run_turn.new.store c.run_turn.ensures.alike
          c.loop-after.invariant.stands;
      alike = g.met.R.Responder.alike_then r c.args.store.now c.loop-after.store c.run_turn.new.store c.loop-after.invariant.alike
          c.run_turn.ensures.alike;
    }

pub returns-in-Some-clause-session : goal.returns-in-Some-clause-session
returns-in-Some-clause-session g c =
    let r = c.args.responder.now in
    run_behind (TurnBy (g.R.Responder.asking r) (g.R.Responder.replying r)) turn_limit (suc c.loop-after.after) _ _ _ c.in-Some.end
    c.loop-after.invariant.so_far c.in-Some.ensures.runs

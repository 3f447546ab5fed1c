use Rattle.std.proofs.Common.{arith, take}
use Rattle.sm_cbor.proofs.FeedSteps.{goes_nowhere, turn_goes, turn_reached, turn_refused, takes_moved}
use Rattle.sm_cbor.proofs.read.Reader.feed.Goals as goal

pub loop-at-init : goal.loop-at-init
loop-at-init g c =
    record {
      inside = omega arith;
      goes = goes_nowhere (g.E.EventSink.stands_for c.args.to.now) c.args.self.now c.requires.sound;
      takes = λ e h. h;
      alike = g.met.E.EventSink.alike_itself c.args.to.now;
    }

pub turn-requires-clause-reached : goal.turn-requires-clause-reached
turn-requires-clause-reached g c =
    turn_reached (g.E.EventSink.stands_for c.args.to.now) (g.E.EventSink.stands_for c.loop-at.to) c.args.self.now c.loop-at.self (take
    c.loop-at.at c.args.bytes.now) c.requires.reached c.loop-at.invariant.goes

pub loop-at-preserved : goal.loop-at-preserved
loop-at-preserved g c =
    let (within, goes) = turn_goes (g.E.EventSink.stands_for c.args.to.now) (g.E.EventSink.stands_for c.loop-at.to)
    (g.E.EventSink.stands_for c.turn.new.to) c.args.self.now c.loop-at.self c.turn.new.self c.args.bytes.now c.loop-at.at c.in-Ok.count
    c.loop-at.invariant.inside c.loop-at.invariant.goes c.in-Ok.ensures.goes in
    record {
      inside = within;
      goes = goes;
      takes = λ e h. c.in-Ok.ensures.takes e (c.loop-at.invariant.takes e h);
      alike = g.met.E.EventSink.alike_then c.args.to.now c.loop-at.to c.turn.new.to c.loop-at.invariant.alike c.in-Ok.ensures.alike;
    }

pub returns-in-Err-clause-goes : goal.returns-in-Err-clause-goes
returns-in-Err-clause-goes g c =
    rw c.moved_by.ensures (turn_refused (g.E.EventSink.stands_for c.args.to.now) (g.E.EventSink.stands_for c.loop-at.to)
    (g.E.EventSink.stands_for c.turn.new.to) c.args.self.now c.loop-at.self c.turn.new.self c.args.bytes.now c.loop-at.at c.in-Err.refusal
    c.loop-at-test.true c.loop-at.invariant.goes c.in-Err.ensures.goes)

pub returns-in-Err-clause-takes : goal.returns-in-Err-clause-takes
returns-in-Err-clause-takes g c =
    rw c.moved_by.ensures (takes_moved (g.E.EventSink.takes c.args.to.now) (g.E.EventSink.takes c.loop-at.to) (g.E.EventSink.takes
    c.turn.new.to) c.loop-at.at c.in-Err.refusal
    c.loop-at.invariant.takes c.in-Err.ensures.takes)

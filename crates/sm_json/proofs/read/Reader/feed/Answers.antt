use Rattle.std.proofs.Common.{arith}
use Rattle.sm_json.proofs.Turns.{turn_goes, refused_in_turn, fed_placed, feeds_nowhere}
use Rattle.sm_json.proofs.read.Reader.feed.Goals as goal

pub loop-at-init : goal.loop-at-init
loop-at-init g c = record {
  inside = omega arith;
  fed = feeds_nowhere c.args.self.now (g.E.EventSink.stands_for c.args.to.now)
      (g.E.EventSink.takes c.args.to.now) c.requires.sound c.requires.placed;
  alike = g.met.E.EventSink.alike_itself c.args.to.now;
}

pub loop-at-preserved : goal.loop-at-preserved
loop-at-preserved g c =
    let (within, fed) = turn_goes c.args.self.now c.loop-at.self c.turn.new.self _ _ _ _ _ c.args.bytes.now c.loop-at.at c.in-Ok.count
    c.loop-at-test.true c.loop-at.invariant.fed c.in-Ok.ensures.goes in
    record {
      inside = within;
      fed = fed;
      alike = g.met.E.EventSink.alike_then c.args.to.now c.loop-at.to c.turn.new.to c.loop-at.invariant.alike c.in-Ok.ensures.alike;
    }

pub returns-in-Err-clause-goes : goal.returns-in-Err-clause-goes
returns-in-Err-clause-goes g c =
    rw c.moved_by.ensures (refused_in_turn c.args.self.now c.loop-at.self c.turn.new.self
    (g.E.EventSink.stands_for c.args.to.now) (g.E.EventSink.stands_for c.loop-at.to) (g.E.EventSink.stands_for c.turn.new.to)
    (g.E.EventSink.takes c.loop-at.to) (g.E.EventSink.takes c.turn.new.to) c.args.bytes.now c.loop-at.at
    c.in-Err.refusal c.loop-at-test.true c.loop-at.invariant.fed c.in-Err.ensures.goes)

pub turn-requires-clause-placed : goal.turn-requires-clause-placed
turn-requires-clause-placed g c = fed_placed c.args.self.now c.loop-at.self _ _ _ _ _ c.requires.placed c.loop-at.invariant.fed

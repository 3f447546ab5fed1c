use Rattle.std.proofs.Common.{◌≤◌, ◌-◌, length, take}
use Rattle.sm_json.specs.steps.Machine.{JsonBrings}
use Rattle.sm_json.proofs.read.Reader.feed.Given as goal

abbrev pub invariant-loop-at : goal.invariant-loop-at
invariant-loop-at g l = record {
  inside : l.at ≤ length l.bytes;
  fed : JsonBrings l.fn.self (g.E.EventSink.stands_for l.fn.to) (take l.at l.bytes) l.self (g.E.EventSink.stands_for l.to)
      (g.E.EventSink.takes l.to);
  alike : g.E.EventSink.alike l.fn.to l.to;
}

abbrev pub decreases-loop-at : goal.decreases-loop-at
decreases-loop-at g l = length l.bytes - l.at

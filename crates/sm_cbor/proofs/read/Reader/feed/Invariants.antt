use Rattle.std.proofs.Common.{[], ◌-◌, ◌≤◌, length, take}
use Rattle.sm_tree.specs.Streams.{TakesSame}
use Rattle.sm_cbor.specs.steps.Machine.{CborGoes}
use Rattle.sm_cbor.proofs.read.Reader.feed.Given as goal

abbrev pub invariant-loop-at : goal.invariant-loop-at
invariant-loop-at g l = record {
  inside : l.at ≤ length l.bytes;
  goes : CborGoes (g.E.EventSink.stands_for l.fn.to) l.fn.self [] l.fn.self.place (take l.at l.bytes)
      (g.E.EventSink.stands_for l.to) l.self;
  takes : TakesSame (g.E.EventSink.takes l.fn.to) (g.E.EventSink.takes l.to);
  alike : g.E.EventSink.alike l.fn.to l.to;
}

abbrev pub decreases-loop-at : goal.decreases-loop-at
decreases-loop-at g l = length l.bytes - l.at

use Rattle.std.proofs.Common.{length}
use Rattle.sm_tree.specs.Streams.{TakesSame}
use Rattle.sm_cbor.specs.steps.Machine.{levels_of}
use Rattle.sm_cbor.proofs.Settling.{Settles}
use Rattle.sm_cbor.proofs.read.Reader.settle.Given as goal

abbrev pub invariant-loop-level : goal.invariant-loop-level
invariant-loop-level g l = record {
  settles : Settles (g.E.EventSink.stands_for l.fn.to) l.fn.self (g.E.EventSink.stands_for l.to) l.self;
  takes : TakesSame (g.E.EventSink.takes l.fn.to) (g.E.EventSink.takes l.to);
  alike : g.E.EventSink.alike l.fn.to l.to;
}

abbrev pub decreases-loop-level : goal.decreases-loop-level
decreases-loop-level g l = length (levels_of l.self)

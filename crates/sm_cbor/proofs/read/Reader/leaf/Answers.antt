use Rattle.std.proofs.lemmas.Result.{on_ok_weaker}
use Rattle.sm_tree.specs.EventView.{event_of}
use Rattle.sm_cbor.proofs.EndSteps.{leaf_may, leaf_reached, leaf_goes}
use Rattle.sm_cbor.proofs.read.Reader.leaf.Goals as goal

pub event-requires-clause-placed : goal.event-requires-clause-placed
event-requires-clause-placed g c =
    leaf_may (g.E.EventSink.stands_for c.args.to.now) c.args.self.now (event_of c.args.event) c.requires.sound c.requires.reached

pub settle-requires-clause-reached : goal.settle-requires-clause-reached
settle-requires-clause-reached g c =
    leaf_reached (g.E.EventSink.stands_for c.args.to.now) (g.E.EventSink.stands_for c.event.new.self) c.args.self.now
    (event_of c.args.event) c.requires.sound c.requires.reached c.in_ok-event.ensures.stands

pub returns-clause-goes : goal.returns-clause-goes
returns-clause-goes g c =
    on_ok_weaker c.settle.result
    (λ goes. leaf_goes (g.E.EventSink.stands_for c.args.to.now) (g.E.EventSink.stands_for c.event.new.self)
    (g.E.EventSink.stands_for c.settle.new.to) c.args.self.now c.settle.new.self (event_of c.args.event) goes
    c.in_ok-event.ensures.stands)
    c.settle.ensures.goes

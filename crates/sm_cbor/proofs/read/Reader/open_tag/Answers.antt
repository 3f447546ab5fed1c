use Rattle.std.proofs.Common.{refl}
use Rattle.sm_cbor.proofs.EndSteps.{tag_may, tag_goes}
use Rattle.sm_cbor.proofs.read.Reader.open_tag.Goals as goal

pub event-requires-clause-placed : goal.event-requires-clause-placed
event-requires-clause-placed g c =
    tag_may (g.E.EventSink.stands_for c.args.to.now) c.args.self.now c.args.number c.requires.sound c.requires.reached

pub returns-clause-goes : goal.returns-clause-goes
returns-clause-goes g c =
    tag_goes (g.E.EventSink.stands_for c.args.to.now) (g.E.EventSink.stands_for c.event.new.self) c.args.self.now _ c.args.number
    c.requires.sound refl c.enter.ensures c.in_ok-event.ensures.stands

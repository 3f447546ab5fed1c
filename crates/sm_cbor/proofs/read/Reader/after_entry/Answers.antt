use Rattle.sm_cbor.proofs.AfterSteps.{entry_reached, entry_takes}
use Rattle.sm_cbor.proofs.read.Reader.after_entry.Goals as goal

pub item-requires-clause-reached : goal.item-requires-clause-reached
item-requires-clause-reached g c =
    entry_reached (g.E.EventSink.stands_for c.args.to.now) c.args.self.now c.requires.innermost c.requires.reached

pub returns-clause-goes : goal.returns-clause-goes
returns-clause-goes g c =
    entry_takes (g.E.EventSink.stands_for c.args.to.now) (g.E.EventSink.stands_for c.item.new.to) c.args.self.now c.item.new.self
    c.args.byte c.item.result c.requires.innermost c.if-byte-eq-BREAK.false c.item.ensures.goes

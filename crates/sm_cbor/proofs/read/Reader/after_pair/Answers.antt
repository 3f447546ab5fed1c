use Rattle.sm_cbor.proofs.AfterSteps.{pair_reached, pair_takes}
use Rattle.sm_cbor.proofs.read.Reader.after_pair.Goals as goal

pub key-requires-clause-reached : goal.key-requires-clause-reached
key-requires-clause-reached g c =
    pair_reached (g.E.EventSink.stands_for c.args.to.now) c.args.self.now c.requires.innermost c.requires.reached

pub returns-clause-goes : goal.returns-clause-goes
returns-clause-goes g c =
    pair_takes (g.E.EventSink.stands_for c.args.to.now) (g.E.EventSink.stands_for c.key.new.to) c.args.self.now c.key.new.self c.args.byte
    c.key.result c.requires.innermost c.if-byte-eq-BREAK.false c.key.ensures.goes

use Rattle.sm_cbor.proofs.Finished.{ended}
use Rattle.sm_cbor.proofs.source.CborReaderEventSource.finish.Goals as goal

pub returns-clause-ends : goal.returns-clause-ends
returns-clause-ends g c bytes fed =
    ended (g.E.EventSink.stands_for c.args._to.now) c.args.self.now bytes c.end.result fed c.end.ensures.again
    (c.end.ensures.ends bytes fed.0)

pub returns-clause-come : goal.returns-clause-come
returns-clause-come g c bytes stands = (c.end.ensures.stands bytes stands).1

pub returns-clause-alike : goal.returns-clause-alike
returns-clause-alike g c = g.met.E.EventSink.alike_itself c.args._to.now

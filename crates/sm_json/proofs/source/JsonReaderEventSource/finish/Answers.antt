use Rattle.sm_json.proofs.Finished.{flush_refused, flush_ended, flush_come}
use Rattle.sm_json.proofs.source.JsonReaderEventSource.finish.Goals as goal

pub returns-in-Ok-clause-ends : goal.returns-in-Ok-clause-ends
returns-in-Ok-clause-ends g c bytes fed =
    flush_ended (g.E.EventSink.stands_for c.args.to.now) (g.E.EventSink.stands_for c.flush.new.to) c.args.self.now c.flush.new.self _
    c.end.result _ _ c.in-Ok.ensures.flushes c.in-Ok.ensures.again c.end.ensures.ends bytes fed

pub returns-in-Ok-clause-come : goal.returns-in-Ok-clause-come
returns-in-Ok-clause-come g c bytes stands =
    flush_come (g.E.EventSink.stands_for c.args.to.now) (g.E.EventSink.stands_for c.flush.new.to) c.args.self.now c.flush.new.self
    c.end.new.self _ _ _ c.in-Ok.ensures.flushes c.in-Ok.ensures.again c.end.ensures.stands bytes stands

pub returns-in-Err-clause-ends : goal.returns-in-Err-clause-ends
returns-in-Err-clause-ends g c bytes fed =
    ((flush_refused (g.E.EventSink.stands_for c.args.to.now) (g.E.EventSink.stands_for c.flush.new.to) c.args.self.now c.flush.new.self
    c.in-Err.refusal _ c.in-Err.ensures.flushes c.in-Err.ensures.again).1 bytes fed.0).0

pub returns-in-Err-clause-come : goal.returns-in-Err-clause-come
returns-in-Err-clause-come g c bytes stands =
    ((flush_refused (g.E.EventSink.stands_for c.args.to.now) (g.E.EventSink.stands_for c.flush.new.to) c.args.self.now c.flush.new.self
    c.in-Err.refusal _ c.in-Err.ensures.flushes c.in-Err.ensures.again).1 bytes stands).1

pub returns-in-Err-clause-refused : goal.returns-in-Err-clause-refused
returns-in-Err-clause-refused g c =
    (flush_refused (g.E.EventSink.stands_for c.args.to.now) (g.E.EventSink.stands_for c.flush.new.to) c.args.self.now c.flush.new.self
    c.in-Err.refusal _ c.in-Err.ensures.flushes c.in-Err.ensures.again).0

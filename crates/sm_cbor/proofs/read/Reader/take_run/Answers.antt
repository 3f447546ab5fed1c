use Rattle.std.proofs.Common.{arith}
use Rattle.std.proofs.lemmas.Result.{on_ok_weaker}
use Rattle.sm_cbor.proofs.RunSteps.{run_goes, run_ends, run_reached}
use Rattle.sm_cbor.proofs.read.Reader.take_run.Goals as goal

pub end_span-requires-clause-reached : goal.end_span-requires-clause-reached
end_span-requires-clause-reached g c =
    run_reached (g.E.EventSink.stands_for c.args.to.now) c.args.self.now c.extend_from_slice.new.self c.in-String.kind c.in-String.span
    c.in-String.all c.in-String.field-3 c.args.next c.args.run.now c.in-String.is c.requires.fits
    c.in_ok-extend_from_slice.ensures.items c.if-left-eq0.true c.requires.reached

pub returns-then-left-eq0-clause-goes : goal.returns-then-left-eq0-clause-goes
returns-then-left-eq0-clause-goes g c =
    on_ok_weaker c.end_span.result
    (λ goes. run_ends (g.E.EventSink.stands_for c.args.to.now) (g.E.EventSink.stands_for c.end_span.new.to) c.args.self.now
    c.end_span.new.self c.extend_from_slice.new.self c.in-String.kind c.in-String.span c.in-String.all c.in-String.field-3 c.args.next
    c.args.run.now c.in-String.is c.requires.fits
    c.in_ok-extend_from_slice.ensures.items c.if-left-eq0.true goes)
    c.end_span.ensures.goes

pub returns-clause-goes : goal.returns-clause-goes
returns-clause-goes g c =
    run_goes (g.E.EventSink.stands_for c.args.to.now) c.args.self.now c.extend_from_slice.new.self c.in-String.kind c.in-String.span
    c.in-String.all c.in-String.field-3 c.args.next c.args.run.now c.in-String.is c.requires.sound c.requires.fits
    c.in_ok-extend_from_slice.ensures.items (omega arith)

use Rattle.std.proofs.Common.{refl, ap, arith}
use Rattle.std.proofs.lemmas.Result.{on_ok_weaker}
use Rattle.sm_cbor.specs.declared.read.Reader.{Reader}
use Rattle.sm_cbor.proofs.EndSteps.{empty_there, empty_reached, empty_goes, string_goes}
use Rattle.sm_cbor.proofs.read.Reader.begin_string.Goals as goal

pub end_span-requires-clause-sound : goal.end_span-requires-clause-sound
end_span-requires-clause-sound g c =
    empty_there c.args.self.now c.forget_before.new.self c.args.kind c.args.span c.args.len c.if-len-eq0.true c.requires.sound
    c.forget_before.ensures.held (ap (λ (r : Reader). r.levels) c.forget_before.ensures.others)

pub end_span-requires-clause-reached : goal.end_span-requires-clause-reached
end_span-requires-clause-reached g c =
    empty_reached (g.E.EventSink.stands_for c.args.to.now) c.args.self.now c.forget_before.new.self c.args.kind c.args.span c.args.len
    c.if-len-eq0.true c.requires.sound
    c.forget_before.ensures.held (ap (λ (r : Reader). r.levels) c.forget_before.ensures.others) c.requires.reached

pub returns-then-len-eq0-clause-goes : goal.returns-then-len-eq0-clause-goes
returns-then-len-eq0-clause-goes g c =
    on_ok_weaker c.end_span.result
    (λ goes. empty_goes (g.E.EventSink.stands_for c.args.to.now) (g.E.EventSink.stands_for c.end_span.new.to) c.args.self.now
    c.forget_before.new.self c.end_span.new.self c.args.kind c.args.span c.args.len c.if-len-eq0.true
    c.requires.sound c.forget_before.ensures.held (ap (λ (r : Reader). r.levels) c.forget_before.ensures.others) goes)
    c.end_span.ensures.goes

pub returns-clause-goes : goal.returns-clause-goes
returns-clause-goes g c =
    string_goes (g.E.EventSink.stands_for c.args.to.now) c.args.self.now _ c.args.kind c.args.span c.args.len c.requires.sound
    c.forget_before.ensures.held (ap (λ (r : Reader). r.levels) c.forget_before.ensures.others) refl (omega arith)

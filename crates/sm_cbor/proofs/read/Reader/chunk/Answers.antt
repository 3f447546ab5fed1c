use Rattle.std.proofs.Common.{refl}
use Rattle.sm_cbor.proofs.ByteSteps.{chunks_string, break_reached, break_goes, chunk_reached, chunk_begins, chunk_bad}
use Rattle.sm_cbor.proofs.read.Reader.chunk.Goals as goal

pub end_string-requires-clause-sound : goal.end_string-requires-clause-sound
end_string-requires-clause-sound g c =
    chunks_string c.args.self.now c.args.kind c.requires.sound

pub end_string-requires-clause-reached : goal.end_string-requires-clause-reached
end_string-requires-clause-reached g c =
    break_reached (g.E.EventSink.stands_for c.args.to.now) c.args.self.now c.args.kind c.args.byte c.if-byte-eq-BREAK.true
    c.requires.reached

pub returns-then-byte-eq-BREAK-clause-goes : goal.returns-then-byte-eq-BREAK-clause-goes
returns-then-byte-eq-BREAK-clause-goes g c =
    break_goes (g.E.EventSink.stands_for c.args.to.now) (g.E.EventSink.stands_for c.end_string.new.to) c.args.self.now
    c.end_string.new.self c.args.kind c.args.byte c.if-byte-eq-BREAK.true c.in_ok-end_string.ensures.goes

pub begin_argument-requires-clause-reached : goal.begin_argument-requires-clause-reached
begin_argument-requires-clause-reached g c =
    chunk_reached (g.E.EventSink.stands_for c.args.to.now) c.args.self.now c.args.kind c.args.byte c.in-Some.left c.in-Some.value
    c.in-Some.ensures.0 c.in-Some.ensures.1 c.requires.reached

pub returns-in_ok-begin_argument-in-Some-clause-goes : goal.returns-in_ok-begin_argument-in-Some-clause-goes
returns-in_ok-begin_argument-in-Some-clause-goes g c =
    chunk_begins (g.E.EventSink.stands_for c.args.to.now) (g.E.EventSink.stands_for c.begin_argument.new.to) c.args.self.now
    c.begin_argument.new.self c.args.kind c.args.byte c.in-Some.left c.in-Some.value c.in-Some.ensures.0 c.in-Some.ensures.1
    c.in_ok-begin_argument-in-Some.ensures.goes

pub returns-in-None-clause-goes : goal.returns-in-None-clause-goes
returns-in-None-clause-goes g c =
    (refl, chunk_bad c.args.self.now c.args.kind c.args.byte c.if-byte-eq-BREAK.false c.in-None.ensures, λ es h. h)

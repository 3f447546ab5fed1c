use Rattle.std.proofs.Common.{[], ◌∷◌, sym, subst}
use Rattle.sm_cbor.specs.steps.Machine.{CborGoes}
use Rattle.sm_cbor.specs.declared.place.CborPlace.TheVariants.{Key}
use Rattle.sm_cbor.specs.declared.read.Reader.{Reader}
use Rattle.sm_cbor.proofs.InitialSteps.{key_begins, key_reached, key_chunks_begin}
use Rattle.sm_cbor.proofs.read.Reader.text_key.Goals as goal

pub returns-then-byte-eq-INDEFINITE_TEXT-clause-goes : goal.returns-then-byte-eq-INDEFINITE_TEXT-clause-goes
returns-then-byte-eq-INDEFINITE_TEXT-clause-goes g c =
    subst (λ (q : Reader). CborGoes (g.E.EventSink.stands_for c.args.to.now) c.args.self.now [] Key (c.args.byte ∷ [])
    (g.E.EventSink.stands_for c.args.to.now) q) (sym c.begin_chunks.ensures.others)
    (key_chunks_begin (g.E.EventSink.stands_for c.args.to.now) c.args.self.now c.args.byte c.begin_chunks.new.self.held
    c.begin_chunks.ensures.held c.requires.sound c.if-byte-eq-INDEFINITE_TEXT.true)

pub begin_argument-requires-clause-reached : goal.begin_argument-requires-clause-reached
begin_argument-requires-clause-reached g c =
    key_reached (g.E.EventSink.stands_for c.args.to.now) c.args.self.now c.args.byte c.in-Some.left c.in-Some.value c.requires.text
    c.in-Some.ensures c.requires.reached

pub returns-in_ok-begin_argument-in-Some-clause-goes : goal.returns-in_ok-begin_argument-in-Some-clause-goes
returns-in_ok-begin_argument-in-Some-clause-goes g c =
    key_begins (g.E.EventSink.stands_for c.args.to.now) (g.E.EventSink.stands_for c.begin_argument.new.to) c.args.self.now
    c.begin_argument.new.self c.args.byte c.in-Some.left c.in-Some.value c.requires.text c.in-Some.ensures
    c.in_ok-begin_argument-in-Some.ensures.goes

use Rattle.std.proofs.Common.{[], ◌∷◌, refl, sym, ap, subst, ◌∙◌, Global}
use Rattle.std.proofs.lemmas.Result.{on_ok_weaker}
use Rattle.std.specs.Prelude.{Vec, ℕ}
use Rattle.sm_tree.specs.Events.{bytes_event, text_event, key_event}
use Rattle.sm_tree.specs.Streams.{MayTake, TakesOn}
use Rattle.sm_bytes.specs.declared.utf8.Utf8.TheVariants.{Between}
use Rattle.sm_cbor.specs.steps.Machine.{IsAt, CborGoes, cbor_state_at}
use Rattle.sm_cbor.specs.steps.Sinks.{Reached, Owed}
use Rattle.sm_cbor.specs.declared.place.Span.TheVariants.{Whole}
use Rattle.sm_cbor.specs.declared.place.CborPlace.TheVariants.{Item, After, String}
use Rattle.sm_cbor.specs.declared.read.Reader.{Reader}
use Rattle.sm_cbor.proofs.EndSteps.{text_held, key_held, bytes_goes, bytes_owed, text_goes, text_owed, key_goes, key_may}
use Rattle.sm_cbor.proofs.read.Reader.end_string.Goals as goal

pub leaf-requires-clause-reached : goal.leaf-requires-clause-reached
leaf-requires-clause-reached g c =
    subst (λ t. Owed (g.E.EventSink.stands_for c.args.to.now) (bytes_event t) (cbor_state_at (record c.args.self.now {
      held =
          c.replace-held.new.dest;
    }) After))
    (sym (c.new-in-Bytes.ensures ∙ ap (λ (v : Vec ℕ Global). v.items) c.replace-held.ensures.value))
    (bytes_owed (g.E.EventSink.stands_for c.args.to.now) c.args.self.now c.replace-held.new.dest (subst (λ k. Reached
    (g.E.EventSink.stands_for c.args.to.now) (cbor_state_at c.args.self.now (String k Whole 0 Between))) c.in-Bytes.is c.requires.reached))

pub text-text-requires : goal.text-text-requires
text-text-requires g c =
    text_held c.args.self.now (subst (λ k. IsAt c.args.self.now (String k Whole 0 Between)) c.in-Text.is c.requires.sound)

pub leaf-requires-in-Text-clause-reached : goal.leaf-requires-in-Text-clause-reached
leaf-requires-in-Text-clause-reached g c =
    subst (λ (r : Reader). Owed (g.E.EventSink.stands_for c.args.to.now) (text_event c.text-text.result) (cbor_state_at r After)) (sym
    c.text-text.ensures.others)
    (subst (λ t. Owed (g.E.EventSink.stands_for c.args.to.now) (text_event t) (cbor_state_at (record c.args.self.now {
      held =
          c.text-text.new.self.held;
    }) After)) (sym c.text-text.ensures.text)
    (text_owed (g.E.EventSink.stands_for c.args.to.now) c.args.self.now c.text-text.new.self.held (subst (λ k. Reached
    (g.E.EventSink.stands_for c.args.to.now) (cbor_state_at c.args.self.now (String k Whole 0 Between))) c.in-Text.is c.requires.reached)))

pub text-text-requires-in-Key : goal.text-text-requires-in-Key
text-text-requires-in-Key g c =
    key_held c.args.self.now (subst (λ k. IsAt c.args.self.now (String k Whole 0 Between)) c.in-Key.is c.requires.sound)

pub event-requires-clause-placed : goal.event-requires-clause-placed
event-requires-clause-placed g c =
    subst (λ t. MayTake (g.E.EventSink.stands_for c.args.to.now) (key_event t)) (sym c.text-text-in-Key.ensures.text)
    (key_may (g.E.EventSink.stands_for c.args.to.now) c.args.self.now (subst (λ k. IsAt c.args.self.now (String k Whole 0 Between))
    c.in-Key.is c.requires.sound)
    (subst (λ k. Reached (g.E.EventSink.stands_for c.args.to.now) (cbor_state_at c.args.self.now (String k Whole 0 Between))) c.in-Key.is
    c.requires.reached))

pub returns-in-Bytes-clause-goes : goal.returns-in-Bytes-clause-goes
returns-in-Bytes-clause-goes g c =
    on_ok_weaker c.leaf.result
    (λ goes. subst (λ k. CborGoes (g.E.EventSink.stands_for c.args.to.now) c.args.self.now [] (String k Whole 0 Between) []
    (g.E.EventSink.stands_for c.leaf.new.to) c.leaf.new.self) (sym c.in-Bytes.is)
    (bytes_goes (g.E.EventSink.stands_for c.args.to.now) (g.E.EventSink.stands_for c.leaf.new.to) c.args.self.now c.leaf.new.self
    c.replace-held.new.dest (bytes_event c.new-in-Bytes.result)
    (ap bytes_event (c.new-in-Bytes.ensures ∙ ap (λ (v : Vec ℕ Global). v.items) c.replace-held.ensures.value)) goes))
    c.leaf.ensures.goes

pub returns-in-Text-clause-goes : goal.returns-in-Text-clause-goes
returns-in-Text-clause-goes g c =
    on_ok_weaker c.leaf-in-Text.result
    (λ goes. subst (λ k. CborGoes (g.E.EventSink.stands_for c.args.to.now) c.args.self.now [] (String k Whole 0 Between) []
    (g.E.EventSink.stands_for c.leaf-in-Text.new.to) c.leaf-in-Text.new.self) (sym c.in-Text.is)
    (text_goes (g.E.EventSink.stands_for c.args.to.now) (g.E.EventSink.stands_for c.leaf-in-Text.new.to) c.args.self.now
    c.leaf-in-Text.new.self c.text-text.new.self.held (text_event c.text-text.result)
    (ap text_event c.text-text.ensures.text)
    (subst (λ (r : Reader). CborGoes (g.E.EventSink.stands_for c.args.to.now) r (text_event c.text-text.result ∷ []) After []
    (g.E.EventSink.stands_for c.leaf-in-Text.new.to) c.leaf-in-Text.new.self)
    c.text-text.ensures.others goes)))
    c.leaf-in-Text.ensures.goes

pub returns-in_ok-event-in-Key-clause-goes : goal.returns-in_ok-event-in-Key-clause-goes
returns-in_ok-event-in-Key-clause-goes g c =
    subst (λ k. CborGoes (g.E.EventSink.stands_for c.args.to.now) c.args.self.now [] (String k Whole 0 Between) []
    (g.E.EventSink.stands_for c.event.new.self) (record c.text-text-in-Key.new.self { place = Item })) (sym c.in-Key.is)
    (key_goes (g.E.EventSink.stands_for c.args.to.now) (g.E.EventSink.stands_for c.event.new.self) c.args.self.now (record
    c.text-text-in-Key.new.self { place = Item })
    (subst (λ k. IsAt c.args.self.now (String k Whole 0 Between)) c.in-Key.is c.requires.sound) refl (ap (λ (r : Reader). r.levels)
    c.text-text-in-Key.ensures.others)
    (subst (λ t. TakesOn (g.E.EventSink.stands_for c.args.to.now) (key_event t) (g.E.EventSink.stands_for c.event.new.self))
    c.text-text-in-Key.ensures.text c.in_ok-event-in-Key.ensures.stands))

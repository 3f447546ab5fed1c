use Rattle.std.proofs.Common.{sym, ap, subst}
use Rattle.sm_tree.specs.Events.{text_event}
use Rattle.sm_cbor.specs.steps.Machine.{cbor_state_at}
use Rattle.sm_cbor.specs.steps.Sinks.{Owed}
use Rattle.sm_cbor.specs.declared.place.CborPlace.TheVariants.{After}
use Rattle.sm_cbor.proofs.PrefixSteps.{text_prefix, text_owed}
use Rattle.sm_cbor.proofs.read.Reader.take_text.Goals as goal

pub leaf-requires-clause-reached : goal.leaf-requires-clause-reached
leaf-requires-clause-reached g c =
    subst (λ t. Owed (g.E.EventSink.stands_for c.args.to.now) (text_event t) (cbor_state_at c.args.self.now After)) (sym
    c.in_ok-copy-in-Some.ensures.bytes)
    (text_owed (g.E.EventSink.stands_for c.args.to.now) c.args.self.now c.args.bytes.now c.in-Some.text.now c.args.head.now.subject
    c.args.head.now.value c.args.head.now.len
    c.requires.sound c.requires.head c.requires.text c.in-Some.ensures.behind c.in-Some.ensures.utf8 c.requires.reached)

pub returns-in_ok-leaf-in-Some-clause-goes : goal.returns-in_ok-leaf-in-Some-clause-goes
returns-in_ok-leaf-in-Some-clause-goes g c =
    text_prefix (g.E.EventSink.stands_for c.args.to.now) (g.E.EventSink.stands_for c.leaf.new.to) c.args.self.now c.leaf.new.self
    c.args.bytes.now c.in-Some.text.now c.args.head.now.subject c.args.head.now.value c.args.head.now.len
    (text_event c.in_ok-copy-in-Some.copy) c.requires.sound c.requires.head c.requires.text c.in-Some.ensures.behind c.in-Some.ensures.utf8
    (ap text_event c.in_ok-copy-in-Some.ensures.bytes) c.in_ok-leaf-in-Some.ensures.goes

use Rattle.std.proofs.Common.{sym, subst}
use Rattle.sm_tree.specs.Events.{key_event}
use Rattle.sm_tree.specs.Streams.{MayTake, TakesOn}
use Rattle.sm_cbor.proofs.PrefixSteps.{key_prefix, key_may}
use Rattle.sm_cbor.proofs.read.Reader.take_key.Goals as goal

pub event-requires-clause-placed : goal.event-requires-clause-placed
event-requires-clause-placed g c =
    subst (λ t. MayTake (g.E.EventSink.stands_for c.args.to.now) (key_event t)) (sym c.in_ok-copy-in-Some.ensures.bytes)
    (key_may (g.E.EventSink.stands_for c.args.to.now) c.args.self.now c.args.bytes.now c.in-Some.text.now c.args.head.now.subject
    c.args.head.now.value c.args.head.now.len
    c.requires.sound c.requires.head c.requires.text c.in-Some.ensures.behind c.in-Some.ensures.utf8 c.requires.reached)

pub returns-in_ok-event-in-Some-clause-goes : goal.returns-in_ok-event-in-Some-clause-goes
returns-in_ok-event-in-Some-clause-goes g c =
    key_prefix (g.E.EventSink.stands_for c.args.to.now) (g.E.EventSink.stands_for c.event.new.self) c.args.self.now c.args.bytes.now
    c.in-Some.text.now c.args.head.now.subject c.args.head.now.value c.args.head.now.len
    c.requires.sound c.requires.head c.requires.text c.in-Some.ensures.behind c.in-Some.ensures.utf8
    (subst (λ t. TakesOn (g.E.EventSink.stands_for c.args.to.now) (key_event t) (g.E.EventSink.stands_for c.event.new.self))
    c.in_ok-copy-in-Some.ensures.bytes c.in_ok-event-in-Some.ensures.stands)

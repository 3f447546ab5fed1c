use Rattle.std.proofs.Common.{refl}
use Rattle.sm_cbor.proofs.PrefixSteps.{head_prefix, head_reached, head_deep}
use Rattle.sm_cbor.proofs.read.Reader.take_head.Goals as goal

pub returns-then-is_full-clause-goes : goal.returns-then-is_full-clause-goes
returns-then-is_full-clause-goes g c = (
  refl,
  head_deep c.args.self.now c.args.bytes.now c.args.head.now.subject c.args.head.now.value c.args.head.now.len c.requires.head
      (c.if-is_level.ensures.0 refl) (c.if-is_full.ensures.0 refl),
  λ es h. h,
)

pub end_argument-requires-clause-reached : goal.end_argument-requires-clause-reached
end_argument-requires-clause-reached g c =
    head_reached (g.E.EventSink.stands_for c.args.to.now) c.args.self.now c.args.bytes.now c.args.head.now.subject c.args.head.now.value
    c.args.head.now.len c.requires.sound c.requires.head c.requires.reached

pub returns-clause-goes : goal.returns-clause-goes
returns-clause-goes g c =
    head_prefix (g.E.EventSink.stands_for c.args.to.now) (g.E.EventSink.stands_for c.end_argument.new.to) c.args.self.now
    c.end_argument.new.self c.args.bytes.now c.args.head.now.subject c.args.head.now.value c.args.head.now.len c.requires.sound
    c.requires.head
    c.in_ok-end_argument.ensures.goes

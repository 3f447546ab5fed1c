use Rattle.std.proofs.Common.{[], ◌∷◌}
use Rattle.sm_tree.specs.Events.{tag_event}
use Rattle.sm_tree.specs.Streams.{numbered}
use Rattle.sm_tree.specs.View.{node_of}
use Rattle.sm_codec.proofs.HandedEvents.{first_ready, rest_ready, then_came}
use Rattle.sm_codec.proofs.events.hand_tagged.Goals as goal

pub hand-requires : goal.hand-requires
hand-requires g c = record {
  ready = first_ready (g.E.EventSink.stands_for c.args.to.now) (g.E.EventSink.takes c.args.to.now) (tag_event c.args.number ∷ [])
      (numbered (node_of c.args.content) []) c.requires.ready;
}

pub hand_plain-requires-clause-ready : goal.hand_plain-requires-clause-ready
hand_plain-requires-clause-ready g c =
    rest_ready (g.E.EventSink.stands_for c.args.to.now) (g.E.EventSink.stands_for c.hand.new.to) (g.E.EventSink.takes c.args.to.now)
    (g.E.EventSink.takes c.hand.new.to) (tag_event c.args.number ∷ []) (numbered (node_of c.args.content) []) c.requires.ready
    c.in-Ok.ensures.came

pub returns-in-Ok-clause-came : goal.returns-in-Ok-clause-came
returns-in-Ok-clause-came g c =
    then_came (g.E.EventSink.stands_for c.args.to.now) (g.E.EventSink.stands_for c.hand.new.to) (g.E.EventSink.stands_for
    c.hand_plain.new.to)
    (g.E.EventSink.takes c.args.to.now) (g.E.EventSink.takes c.hand.new.to) (g.E.EventSink.takes c.hand_plain.new.to)
    (tag_event c.args.number ∷ []) (numbered (node_of c.args.content) []) c.hand_plain.result c.in-Ok.ensures.came c.hand_plain.ensures.came

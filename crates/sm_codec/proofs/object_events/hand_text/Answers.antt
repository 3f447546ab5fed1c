use Rattle.std.proofs.Common.{[], ◌∷◌}
use Rattle.sm_tree.specs.Events.{key_event, text_event}
use Rattle.sm_codec.proofs.HandedEvents.{first_ready, rest_ready, then_came}
use Rattle.sm_codec.proofs.object_events.hand_text.Goals as goal

pub hand_key-requires : goal.hand_key-requires
hand_key-requires g c = record {
  ready = first_ready (g.E.EventSink.stands_for c.args.to.now) (g.E.EventSink.takes c.args.to.now) (key_event c.args.name.now ∷ [])
      (text_event c.args.text.now ∷ []) c.requires.ready;
}

pub hand_copy-requires : goal.hand_copy-requires
hand_copy-requires g c = record {
  ready = rest_ready (g.E.EventSink.stands_for c.args.to.now) (g.E.EventSink.stands_for c.hand_key.new.to)
      (g.E.EventSink.takes c.args.to.now) (g.E.EventSink.takes c.hand_key.new.to) (key_event c.args.name.now ∷ [])
      (text_event c.args.text.now ∷ []) c.requires.ready c.in-Ok.ensures.came;
}

pub returns-in-Ok-clause-came : goal.returns-in-Ok-clause-came
returns-in-Ok-clause-came g c =
    then_came (g.E.EventSink.stands_for c.args.to.now) (g.E.EventSink.stands_for c.hand_key.new.to) (g.E.EventSink.stands_for
    c.hand_copy.new.to) (g.E.EventSink.takes c.args.to.now) (g.E.EventSink.takes c.hand_key.new.to) (g.E.EventSink.takes
    c.hand_copy.new.to) (key_event c.args.name.now ∷ []) (text_event c.args.text.now ∷ []) c.hand_copy.result c.in-Ok.ensures.came
    c.hand_copy.ensures.came

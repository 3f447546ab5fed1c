use Rattle.std.specs.Prelude.{option_copied, option_map}
use Rattle.sm_shapes.specs.TableView.{table_data}
use Rattle.sm_codec.specs.PlaceView.{place_of}
use Rattle.sm_codec.specs.steps.EventsHanded.{chosen_stream, fields_left}
use Rattle.sm_codec.proofs.HandedEvents.{last_came}
use Rattle.sm_codec.proofs.HandedLoops.{before_came, before_ready, chosen_opens}
use Rattle.sm_codec.proofs.object_events.hand_object.Goals as goal

pub hand-requires : goal.hand-requires
hand-requires g c =
    let before = option_map (λ pair. (pair.0.now, pair.1.now)) c.args.before in
    let o = option_copied c.args.members in
    record {
      ready = chosen_opens (table_data c.args.by.now.table.now) (g.L.Leaves.convention c.args.by.now.leaves.now)
          (place_of c.args.place) o before c.args.fields.now c.count_pairs-count.result c.count_pairs-count.ensures c.requires.ready;
    }

pub hand_before-requires : goal.hand_before-requires
hand_before-requires g c =
    let before = option_map (λ pair. (pair.0.now, pair.1.now)) c.args.before in
    let o = option_copied c.args.members in
    record {
      ready = before_ready (table_data c.args.by.now.table.now) (g.L.Leaves.convention c.args.by.now.leaves.now)
          (place_of c.args.place) o before c.args.fields.now c.count_pairs-count.result c.count_pairs-count.ensures c.requires.ready
          c.in-Ok.ensures.came;
    }

pub hand_fields-requires-clause-ready : goal.hand_fields-requires-clause-ready
hand_fields-requires-clause-ready g c =
    let before = option_map (λ pair. (pair.0.now, pair.1.now)) c.args.before in
    let o = option_copied c.args.members in
    (before_came (table_data c.args.by.now.table.now) (g.L.Leaves.convention c.args.by.now.leaves.now)
    (place_of c.args.place) o before c.args.fields.now c.count_pairs-count.result c.count_pairs-count.ensures c.requires.ready
    c.in-Ok.ensures.came (g.E.EventSink.stands_for c.hand_before.new.to) (g.E.EventSink.takes c.hand_before.new.to)
    c.in-Ok-hand_before.ensures.came).3

pub returns-in-Ok-hand_before-clause-came : goal.returns-in-Ok-hand_before-clause-came
returns-in-Ok-hand_before-clause-came g c =
    let before = option_map (λ pair. (pair.0.now, pair.1.now)) c.args.before in
    let o = option_copied c.args.members in
    let t = table_data c.args.by.now.table.now in
    let l = g.L.Leaves.convention c.args.by.now.leaves.now in
    let p = place_of c.args.place in
    let S = g.E.EventSink.stands_for c.args.to.now in
    let T = g.E.EventSink.takes c.args.to.now in
    let N = g.E.EventSink.stands_for c.hand_before.new.to in
    let V = g.E.EventSink.takes c.hand_before.new.to in
    last_came S N (g.E.EventSink.stands_for c.hand_fields.new.to) T V (g.E.EventSink.takes c.hand_fields.new.to)
    (chosen_stream t l p before o c.args.fields.now) (fields_left t l p o c.args.fields.now) c.hand_fields.result
    (before_came t l p o before c.args.fields.now c.count_pairs-count.result c.count_pairs-count.ensures c.requires.ready
    c.in-Ok.ensures.came N V c.in-Ok-hand_before.ensures.came) c.hand_fields.ensures.came

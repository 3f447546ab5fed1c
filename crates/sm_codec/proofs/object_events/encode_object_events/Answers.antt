use Rattle.std.specs.Prelude.{option_copied, option_map}
use Rattle.sm_shapes.specs.Fitting.{any_text}
use Rattle.sm_shapes.specs.Places.{root_place}
use Rattle.sm_shapes.specs.TableView.{table_data}
use Rattle.sm_shapes.specs.Values.{structure_val, fields_of}
use Rattle.sm_shapes.specs.ValueView.{each_field_view}
use Rattle.sm_codec.specs.WrittenObjects.{fields_among, written_object}
use Rattle.sm_codec.specs.steps.ValueParts.{any_leaf}
use Rattle.sm_codec.proofs.HandedEvents.{empty_ready, all_stand}
use Rattle.sm_codec.proofs.HandedLoops.{among_hold}
use Rattle.sm_codec.proofs.PartsFit.{parts_fit, parts_carried}
use Rattle.sm_codec.proofs.object_events.encode_object_events.Goals as goal

pub hand_object-requires-clause-parts : goal.hand_object-requires-clause-parts
hand_object-requires-clause-parts g c =
    let t = table_data c.args.table.now in
    let fs = fields_of (each_field_view c.args.fields.now) in
    let o = option_copied c.args.members in
    let held = parts_fit t any_text c.requires.shaped (structure_val fs) (root_place c.args.shape) c.requires.shape c.requires.fits in
    (parts_carried t (g.L.Leaves.convention c.args.leaves.now) (structure_val (fields_among o fs)) (root_place c.args.shape)
    (c.requires.shape, among_hold t any_leaf o fs held.1) c.requires.carried).1

pub hand_object-requires-clause-ready : goal.hand_object-requires-clause-ready
hand_object-requires-clause-ready g c =
    let n = written_object (table_data c.args.table.now) (g.L.Leaves.convention c.args.leaves.now) (root_place c.args.shape)
    (option_map (λ pair. (pair.0.now, pair.1.now)) c.args.before) (option_copied c.args.members)
    (fields_of (each_field_view c.args.fields.now)) in
    empty_ready (g.E.EventSink.stands_for c.args.to.now) (g.E.EventSink.takes c.args.to.now) n c.requires.empty c.requires.takes

pub returns-clause-stands : goal.returns-clause-stands
returns-clause-stands g c =
    let n = written_object (table_data c.args.table.now) (g.L.Leaves.convention c.args.leaves.now) (root_place c.args.shape)
    (option_map (λ pair. (pair.0.now, pair.1.now)) c.args.before) (option_copied c.args.members)
    (fields_of (each_field_view c.args.fields.now)) in
    all_stand (g.E.EventSink.stands_for c.args.to.now) (g.E.EventSink.stands_for c.hand_object.new.to) (g.E.EventSink.takes c.args.to.now)
    (g.E.EventSink.takes c.hand_object.new.to) n c.hand_object.result c.requires.empty c.hand_object.ensures.came

use Rattle.sm_shapes.specs.Fitting.{any_text}
use Rattle.sm_shapes.specs.TableView.{table_data}
use Rattle.sm_shapes.specs.ValueView.{val_of}
use Rattle.sm_codec.specs.PlaceView.{place_of}
use Rattle.sm_codec.specs.Written.{written}
use Rattle.sm_codec.proofs.HandedEvents.{empty_ready, all_stand}
use Rattle.sm_codec.proofs.PartsFit.{parts_fit, parts_carried}
use Rattle.sm_codec.proofs.events.encode_events_at.Goals as goal

pub hand_value-requires-clause-parts : goal.hand_value-requires-clause-parts
hand_value-requires-clause-parts g c =
    let t = table_data c.args.table.now in
    let v = val_of c.args.value.now in
    let p = place_of c.args.place in
    parts_carried t (g.L.Leaves.convention c.args.leaves.now) v p (parts_fit t any_text c.requires.shaped v p c.requires.place
    c.requires.fits)
    c.requires.carried

pub hand_value-requires-clause-ready : goal.hand_value-requires-clause-ready
hand_value-requires-clause-ready g c =
    let n = written (table_data c.args.table.now) (g.L.Leaves.convention c.args.leaves.now) (place_of c.args.place) (val_of
    c.args.value.now) in
    empty_ready (g.E.EventSink.stands_for c.args.to.now) (g.E.EventSink.takes c.args.to.now) n c.requires.empty c.requires.takes

pub returns-clause-stands : goal.returns-clause-stands
returns-clause-stands g c =
    let n = written (table_data c.args.table.now) (g.L.Leaves.convention c.args.leaves.now) (place_of c.args.place) (val_of
    c.args.value.now) in
    all_stand (g.E.EventSink.stands_for c.args.to.now) (g.E.EventSink.stands_for c.hand_value.new.to) (g.E.EventSink.takes c.args.to.now)
    (g.E.EventSink.takes c.hand_value.new.to) n c.hand_value.result c.requires.empty c.hand_value.ensures.came

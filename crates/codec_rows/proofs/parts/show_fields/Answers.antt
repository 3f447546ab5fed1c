use Rattle.std.proofs.Common.{refl, option_copied}
use Rattle.sm_shapes.specs.Places.{root_place}
use Rattle.sm_shapes.specs.TableView.{table_data}
use Rattle.sm_shapes.specs.ValueView.{each_field_view}
use Rattle.codec_rows.proofs.StructureParts.{every_taken, among_structure}
use Rattle.codec_rows.proofs.parts.show_fields.Goals as goal

pub encode_object_events-requires-clause-carried : goal.encode_object_events-requires-clause-carried
encode_object_events-requires-clause-carried g c =
    among_structure (table_data c.args.table.now) (g.L.Leaves.convention c.args.leaves.now) (root_place c.args.shape)
    (option_copied c.args.chosen.members) c.args.value.now c.in-Structure.fields (each_field_view c.as_slice.result.now) c.in-Structure.is
    c.as_slice.ensures (c.if-not-all_carried.ensures.0 refl)

pub encode_object_events-requires-clause-takes : goal.encode_object_events-requires-clause-takes
encode_object_events-requires-clause-takes g c = (tt, every_taken (λ e. Unit {0}) (λ e. tt) _)

use Rattle.std.proofs.Common.{◌≡◌, ◌+◌, ◌≤◌, drop}
use Rattle.std.specs.Prelude.{option_copied}
use Rattle.sm_shapes.specs.Values.{fields_of}
use Rattle.sm_shapes.specs.ValueView.{each_field_view}
use Rattle.sm_codec.specs.WrittenObjects.{fields_among}
use Rattle.sm_codec.specs.steps.EventsHanded.{field_count}
use Rattle.sm_codec.proofs.listed.written_count.Given as goal

abbrev pub invariant-loop-part : goal.invariant-loop-part
invariant-loop-part l = record {
  rest : l.count + field_count (fields_among (option_copied l.members) (fields_of (each_field_view (drop l.part-index l.fields))))
      ≡ field_count (fields_among (option_copied l.members) (fields_of (each_field_view l.fields)));
  few : l.count ≤ l.part-index;
}

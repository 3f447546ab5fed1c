use Rattle.std.proofs.Common.{◌≡◌, drop}
use Rattle.sm_shapes.specs.TableView.{table_data}
use Rattle.sm_shapes.specs.ValueView.{fields_view}
use Rattle.sm_shapes.specs.FieldPuts.{FieldsRise}
use Rattle.sm_codec.specs.steps.ClosingSteps.{defaults_put}
use Rattle.sm_codec.proofs.frames.ending.put_defaults.Given as goal

abbrev pub invariant-loop-member : goal.invariant-loop-member
invariant-loop-member l = record {
  put : defaults_put (table_data l.table) (drop l.member-index l.members) (fields_view l.fields)
      ≡ defaults_put (table_data l.table) l.members (fields_view l.fn.fields);
  rises : FieldsRise (fields_view l.fields);
}

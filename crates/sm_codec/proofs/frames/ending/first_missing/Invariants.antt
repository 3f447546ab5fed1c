use Rattle.std.proofs.Common.{◌≡◌, drop}
use Rattle.sm_shapes.specs.TableView.{table_data}
use Rattle.sm_shapes.specs.ValueView.{fields_view}
use Rattle.sm_codec.specs.steps.ClosingSteps.{missing}
use Rattle.sm_codec.proofs.frames.ending.first_missing.Given as goal

abbrev pub invariant-loop-member : goal.invariant-loop-member
invariant-loop-member l =
    missing (table_data l.table) (fields_view l.fields) (drop l.member-index l.members)
    ≡ missing (table_data l.table) (fields_view l.fields) l.members

use Rattle.std.proofs.Common.{◌≡◌, ◌++◌, drop}
use Rattle.sm_tree.specs.Node.{members_of}
use Rattle.sm_tree.specs.View.{members_view}
use Rattle.sm_model.specs.FieldsView.{fields_view}
use Rattle.sm_model.specs.Properties.{property_forms}
use Rattle.sm_idl.specs.Written.{field_lines}
use Rattle.sm_idl.proofs.write.field.put_fields_of.Given as goal

abbrev pub invariant-loop-field : goal.invariant-loop-field
invariant-loop-field l =
    l.out.items ++ field_lines (fields_view (drop l.field-index l.wanted)) (members_of (members_view l.pairs))
    ≡ l.fn.out.items ++ field_lines (property_forms l.fn.kind) (members_of (members_view l.pairs))

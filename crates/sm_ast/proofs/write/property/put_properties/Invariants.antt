use Rattle.std.proofs.Common.{◌≡◌, ◌++◌, drop}
use Rattle.sm_tree.specs.Node.{members_of}
use Rattle.sm_tree.specs.View.{members_view, node_of}
use Rattle.sm_model.specs.FieldsView.{fields_view}
use Rattle.sm_model.specs.Properties.{property_forms}
use Rattle.sm_ast.specs.Written.{written_properties}
use Rattle.sm_ast.specs.PartsSaid.{pairs_said}
use Rattle.sm_ast.proofs.write.property.put_properties.Given as goal

abbrev pub invariant-loop-field : goal.invariant-loop-field
invariant-loop-field l =
    members_view l.fields.items
    ++ written_properties (fields_view (drop l.field-index l.wanted)) (members_of (members_view l.pairs))
    ≡ members_view l.fn.fields.items ++ written_properties (property_forms l.fn.kind) (pairs_said (node_of l.fn.body))

use Rattle.std.proofs.Common.{◌≡◌, ◌++◌, drop}
use Rattle.sm_tree.specs.Node.{members_of}
use Rattle.sm_tree.specs.View.{members_view}
use Rattle.sm_model.specs.RawView.{raw_members_view}
use Rattle.sm_model.specs.Properties.{property_forms}
use Rattle.sm_ast.specs.steps.Saying.{property_pairs}
use Rattle.sm_ast.proofs.statements.property.properties.Given as goal

abbrev pub invariant-loop-pair : goal.invariant-loop-pair
invariant-loop-pair l = record {
  said : raw_members_view l.properties.items ++ property_pairs (property_forms l.kind)
      (members_of (members_view (drop l.pair-index l.pairs)))
      ≡ property_pairs (property_forms l.kind) (members_of (members_view l.pairs));
}

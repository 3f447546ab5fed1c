use Rattle.std.proofs.Common.{◌≡◌, ◌++◌, drop}
use Rattle.sm_tree.specs.Node.{nodes_of}
use Rattle.sm_tree.specs.View.{nodes_view}
use Rattle.sm_model.specs.RawView.{raws_view}
use Rattle.sm_ast.specs.steps.Saying.{reference_entries}
use Rattle.sm_ast.proofs.statements.property.id_entries.Given as goal

abbrev pub invariant-loop-entry : goal.invariant-loop-entry
invariant-loop-entry l = record {
  said : raws_view l.ids.items ++ reference_entries (nodes_of (nodes_view (drop l.entry-index l.entries)))
      ≡ reference_entries (nodes_of (nodes_view l.entries));
}

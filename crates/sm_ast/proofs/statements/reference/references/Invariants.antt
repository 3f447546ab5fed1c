use Rattle.std.proofs.Common.{◌≡◌, ◌++◌, drop}
use Rattle.sm_tree.specs.Node.{nodes_of}
use Rattle.sm_tree.specs.View.{nodes_view}
use Rattle.sm_ast.specs.steps.Saying.{references_said}
use Rattle.sm_ast.proofs.statements.reference.references.Given as goal

abbrev pub invariant-loop-entry : goal.invariant-loop-entry
invariant-loop-entry l = record {
  said : l.references.items ++ references_said (nodes_of (nodes_view (drop l.entry-index l.entries)))
      ≡ references_said (nodes_of (nodes_view l.entries));
}

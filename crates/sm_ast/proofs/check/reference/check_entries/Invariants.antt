use Rattle.std.proofs.Common.{◌≡◌, drop}
use Rattle.sm_tree.specs.Node.{nodes_of}
use Rattle.sm_tree.specs.View.{nodes_view}
use Rattle.sm_ast.specs.Faults.{entries_fault, reference_fault}
use Rattle.sm_ast.proofs.check.reference.check_entries.Given as goal

abbrev pub invariant-loop-entry : goal.invariant-loop-entry
invariant-loop-entry l = record {
  at : l.at ≡ l.entry-index;
  fault : entries_fault reference_fault 0 (nodes_of (nodes_view l.entries))
      ≡ entries_fault reference_fault l.at (nodes_of (nodes_view (drop l.entry-index l.entries)));
}

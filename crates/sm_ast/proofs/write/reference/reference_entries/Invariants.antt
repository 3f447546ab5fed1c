use Rattle.std.proofs.Common.{◌≡◌, ◌++◌, drop}
use Rattle.sm_tree.specs.Node.{nodes_of}
use Rattle.sm_tree.specs.View.{nodes_view}
use Rattle.sm_ast.specs.Written.{written_entries}
use Rattle.sm_ast.proofs.write.reference.reference_entries.Given as goal

abbrev pub invariant-loop-id : goal.invariant-loop-id
invariant-loop-id l = record {
  written : nodes_view l.entries.items ++ written_entries (nodes_of (nodes_view (drop l.id-index l.ids)))
      ≡ written_entries (nodes_of (nodes_view l.ids));
}

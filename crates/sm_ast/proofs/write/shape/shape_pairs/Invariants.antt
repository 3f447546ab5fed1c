use Rattle.std.proofs.Common.{◌≡◌, ◌++◌, drop}
use Rattle.sm_tree.specs.View.{members_view}
use Rattle.sm_model.specs.GraphView.{entries_of, maps_of}
use Rattle.sm_ast.specs.Written.{written_shapes}
use Rattle.sm_ast.proofs.write.shape.shape_pairs.Given as goal

abbrev pub invariant-loop-number : goal.invariant-loop-number
invariant-loop-number l = record {
  written : members_view l.shapes.items ++ written_shapes (maps_of l.graph).shapes (drop l.number (entries_of l.graph))
      ≡ written_shapes (maps_of l.graph).shapes (entries_of l.graph);
}

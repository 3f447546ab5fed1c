use Rattle.std.proofs.Common.{◌≡◌, ◌++◌, drop}
use Rattle.sm_model.specs.GraphView.{entries_of, maps_of}
use Rattle.sm_idl.specs.Written.{shape_lines}
use Rattle.sm_idl.proofs.write.shape.put_shapes.Given as goal

abbrev pub invariant-loop-number : goal.invariant-loop-number
invariant-loop-number l = record {
  written : l.out.items ++ shape_lines (maps_of l.graph).shapes l.namespace (drop l.number (entries_of l.graph))
      ≡ l.fn.out.items ++ shape_lines (maps_of l.graph).shapes l.namespace (entries_of l.graph);
}

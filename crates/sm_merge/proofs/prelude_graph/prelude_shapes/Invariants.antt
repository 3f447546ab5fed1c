use Rattle.std.proofs.Common.{◌≡◌, ◌++◌, drop}
use Rattle.sm_model.specs.GivenView.{given_view}
use Rattle.sm_merge.specs.steps.PreludeRows.{AreNamedRows, preset_shapes}
use Rattle.sm_merge.proofs.prelude_graph.prelude_shapes.Given as goal

abbrev pub invariant-loop-row : goal.invariant-loop-row
invariant-loop-row l = record {
  shapes : given_view l.shapes.items ++ preset_shapes (drop l.row-index l.rows) ≡ preset_shapes l.rows;
  names : AreNamedRows (drop l.row-index l.rows);
}

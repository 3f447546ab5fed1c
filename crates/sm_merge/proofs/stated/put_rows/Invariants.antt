use Rattle.std.proofs.Common.{◌≡◌, ◌++◌, drop, map}
use Rattle.sm_model.specs.Formed.{AreFormed}
use Rattle.sm_model.specs.SaidView.{statements_view}
use Rattle.sm_merge.specs.Stated.{stated}
use Rattle.sm_merge.specs.steps.Known.{known}
use Rattle.sm_merge.specs.steps.Rows.{rows_view}
use Rattle.sm_merge.proofs.stated.put_rows.Given as goal

abbrev pub invariant-loop-statement : goal.invariant-loop-statement
invariant-loop-statement l = record {
  formed : AreFormed (statements_view (drop l.statement-index l.file));
  rows : rows_view l.rows.items ++ map (stated (known l.names)) (statements_view (drop l.statement-index l.file))
      ≡ rows_view l.fn.rows.items ++ map (stated (known l.names)) (statements_view l.file);
}

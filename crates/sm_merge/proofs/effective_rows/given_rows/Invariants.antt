use Rattle.std.proofs.Common.{◌≡◌, ◌++◌, drop}
use Rattle.sm_merge.specs.steps.Filling.{folded_rows}
use Rattle.sm_merge.specs.steps.Tables.{named_view}
use Rattle.sm_merge.proofs.effective_rows.given_rows.Given as goal

abbrev pub invariant-loop-value : goal.invariant-loop-value
invariant-loop-value l = folded_rows l.rows.items ++ named_view (drop l.value-index l.values) ≡ named_view l.values

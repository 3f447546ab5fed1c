use Rattle.std.proofs.Common.{◌≡◌, ◌++◌, drop, filter}
use Rattle.sm_merge.specs.steps.Filling.{folded_rows, is_kept}
use Rattle.sm_merge.proofs.effective_rows.kept_rows.Given as goal

abbrev pub invariant-loop-row : goal.invariant-loop-row
invariant-loop-row l =
    folded_rows l.rows.items ++ filter is_kept (folded_rows (drop l.row-index l.traits)) ≡ filter is_kept (folded_rows l.traits)

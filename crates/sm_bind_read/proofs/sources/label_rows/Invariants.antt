use Rattle.std.proofs.Common.{◌≡◌, ◌++◌, drop}
use Rattle.sm_bind_read.proofs.sources.label_rows.Given as goal

abbrev pub invariant-loop-label : goal.invariant-loop-label
invariant-loop-label l = l.rows.items ++ drop l.label-index l.labels ≡ l.labels

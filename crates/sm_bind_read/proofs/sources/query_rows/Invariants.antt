use Rattle.std.proofs.Common.{◌≡◌, ◌++◌, drop}
use Rattle.sm_bind_read.specs.steps.Sources.{text_rows}
use Rattle.sm_bind_read.proofs.sources.query_rows.Given as goal

abbrev pub invariant-loop-pair : goal.invariant-loop-pair
invariant-loop-pair l = l.rows.items ++ text_rows (drop l.pair-index l.pairs) ≡ text_rows l.pairs

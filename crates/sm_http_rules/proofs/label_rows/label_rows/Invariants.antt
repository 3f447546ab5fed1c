use Rattle.std.proofs.Common.{◌≡◌, ◌++◌, drop}
use Rattle.sm_http_rules.specs.steps.Labels.{rows_of_labels}
use Rattle.sm_http_rules.proofs.label_rows.label_rows.Given as goal

abbrev pub invariant-loop-segment : goal.invariant-loop-segment
invariant-loop-segment l =
    l.rows.items ++ rows_of_labels l.greedy (drop l.segment-index l.segments) ≡ rows_of_labels l.greedy l.segments

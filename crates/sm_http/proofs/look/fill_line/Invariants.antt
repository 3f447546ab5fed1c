-- What was taken so far stands behind what was held.
use Rattle.std.proofs.Common.{◌≤◌, ◌<◌, ◌-◌, length}
use Rattle.sm_http.specs.Limits.{head_limit}
use Rattle.sm_http.specs.steps.Looking.{HasTaken}
use Rattle.sm_http.proofs.look.fill_line.Given as goal

abbrev pub invariant-loop-count : goal.invariant-loop-count
invariant-loop-count g l = record {
  taken : HasTaken (g.S.Source.left l.fn.source) (g.S.Source.left l.source) l.fn.held l.held l.total;
  room : length l.held < head_limit;
  small : l.total ≤ length l.held;
  faults : g.S.Source.faults l.fn.source ≤ g.S.Source.faults l.source;
}

abbrev pub decreases-loop-count : goal.decreases-loop-count
decreases-loop-count g l = head_limit - length l.held

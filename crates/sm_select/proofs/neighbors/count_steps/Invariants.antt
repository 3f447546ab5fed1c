use Rattle.std.proofs.Common.{◌≡◌, ◌+◌, ◌<◌, ℕ, drop, get_or, length}
use Rattle.sm_select.specs.steps.Runs.{steps_at}
use Rattle.sm_select.proofs.neighbors.count_steps.Given as goal

abbrev pub invariant-loop-link : goal.invariant-loop-link
invariant-loop-link l = record {
  whole : length l.counts ≡ length l.initial.counts;
  steps : (k : ℕ) → k < length l.initial.counts
      → get_or l.counts k 0 + steps_at l.back (drop l.link-index l.links) k ≡ steps_at l.back l.links k;
}

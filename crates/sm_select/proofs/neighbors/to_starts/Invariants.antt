use Rattle.std.proofs.Common.{◌≡◌, ◌<◌, ◌≤◌, ℕ, get_or, length}
use Rattle.sm_select.specs.steps.Runs.{sums}
use Rattle.sm_select.proofs.neighbors.to_starts.Given as goal

abbrev pub invariant-loop-number : goal.invariant-loop-number
invariant-loop-number l = record {
  whole : length l.counts ≡ length l.initial.counts;
  within : l.number ≤ length l.initial.counts;
  sum : l.before ≡ sums (λ j. get_or l.initial.counts j 0) l.number;
  starts : (k : ℕ) → k < l.number → get_or l.counts k 0 ≡ sums (λ j. get_or l.initial.counts j 0) k;
  later : (k : ℕ) → l.number ≤ k → get_or l.counts k 0 ≡ get_or l.initial.counts k 0;
}

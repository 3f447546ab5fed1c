use Rattle.std.proofs.Common.{◌≡◌, ◌<◌, ℕ, length, get_or, None}
use Rattle.std.specs.Prelude.{IsSomeAnd, slice_get}
use Rattle.sm_model.specs.GraphRows.{ids_of}
use Rattle.sm_model.specs.steps.TargetNumbers.{IsTargetNumber}
use Rattle.sm_model.proofs.graph.targets.targets_of.Given as goal

abbrev pub invariant-loop-row : goal.invariant-loop-row
invariant-loop-row l = record {
  long : length l.targets.items ≡ l.row-index;
  each : (k : ℕ) → k < l.row-index
      → IsSomeAnd (slice_get l.rows k) (λ r. IsTargetNumber (ids_of l.rows) r.entry (get_or l.targets.items k None));
}

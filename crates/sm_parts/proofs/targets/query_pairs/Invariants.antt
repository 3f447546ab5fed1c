use Rattle.std.proofs.Common.{◌≡◌, ◌++◌, length}
use Rattle.sm_parts.specs.Targets.{query_pairs}
use Rattle.sm_parts.proofs.targets.query_pairs.Given as goal

abbrev pub invariant-loop-refusal : goal.invariant-loop-refusal
invariant-loop-refusal l = l.pairs.items ++ query_pairs l.rest ≡ query_pairs l.query

abbrev pub decreases-loop-refusal : goal.decreases-loop-refusal
decreases-loop-refusal l = length l.rest

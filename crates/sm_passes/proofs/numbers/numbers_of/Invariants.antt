use Rattle.std.proofs.Common.{take, ◌≡◌}
use Rattle.std.specs.Map.{values_of}
use Rattle.sm_passes.proofs.numbers.numbers_of.Given as goal

abbrev pub invariant-loop-row : goal.invariant-loop-row
invariant-loop-row g l = l.numbers.items ≡ values_of (take l.row-index l.rows)

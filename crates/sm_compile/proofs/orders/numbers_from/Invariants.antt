use Rattle.std.proofs.Common.{◌≡◌}
use Rattle.sm_compile.specs.steps.Numbered.{run}
use Rattle.sm_compile.proofs.orders.numbers_from.Given as goal

abbrev pub invariant-loop-place : goal.invariant-loop-place
invariant-loop-place l = l.numbers.items ≡ run l.first l.place

use Rattle.std.proofs.Common.{◌≡◌}
use Rattle.sm_excerpts.specs.steps.Rows.{numbers_from}
use Rattle.sm_excerpts.proofs.orders.numbers_from.Given as goal

abbrev pub invariant-loop-place : goal.invariant-loop-place
invariant-loop-place l = l.numbers.items ≡ numbers_from l.first l.place

use Rattle.std.proofs.Common.{◌≡◌, replicate}
use Rattle.sm_reference_rules.proofs.finite.no_places.Given as goal

abbrev pub invariant-loop : goal.invariant-loop
invariant-loop l = l.places.items ≡ replicate l.counter 0

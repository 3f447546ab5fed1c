use Rattle.std.proofs.Common.{◌≡◌, drop}
use Rattle.sm_transformed.specs.Transformed.{some_grave}
use Rattle.sm_transformed.proofs.judging.has_grave.Given as goal

abbrev pub invariant-loop-event : goal.invariant-loop-event
invariant-loop-event l = some_grave (drop l.event-index l.events) ≡ some_grave l.events

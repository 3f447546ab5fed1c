use Rattle.std.proofs.Common.{None, replicate, ◌≡◌}
use Rattle.sm_service.proofs.serving_room.none_told.Given as goal

abbrev pub invariant-loop : goal.invariant-loop
invariant-loop l = l.told.items ≡ replicate l.counter None

use Rattle.std.proofs.Common.{◌≡◌, length}
use Rattle.sm_routes.specs.KeptOrder.{places_cmp}
use Rattle.sm_routes.proofs.order.places_cmp.Given as goal

abbrev pub invariant-places : goal.invariant-places
invariant-places l = places_cmp l.ones l.others ≡ places_cmp l.one l.other

abbrev pub decreases-places : goal.decreases-places
decreases-places l = length l.ones

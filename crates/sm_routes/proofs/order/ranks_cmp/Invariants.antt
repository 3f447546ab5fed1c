use Rattle.std.proofs.Common.{◌≡◌, length}
use Rattle.sm_routes.specs.Routes.{ranks_cmp}
use Rattle.sm_routes.proofs.order.ranks_cmp.Given as goal

abbrev pub invariant-ranks : goal.invariant-ranks
invariant-ranks l = ranks_cmp l.ones l.others ≡ ranks_cmp l.one l.other

abbrev pub decreases-ranks : goal.decreases-ranks
decreases-ranks l = length l.ones

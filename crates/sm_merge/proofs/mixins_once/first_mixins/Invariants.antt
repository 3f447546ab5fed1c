use Rattle.std.proofs.Common.{◌≡◌, ◌++◌, drop}
use Rattle.sm_merge.specs.steps.MixinsOnce.{has_number, mixins_once, unseen_mixins}
use Rattle.sm_merge.proofs.mixins_once.first_mixins.Given as goal

abbrev pub invariant-loop-mixin : goal.invariant-loop-mixin
invariant-loop-mixin l = l.once.items ++ unseen_mixins (has_number l.seen) (drop l.mixin-index l.mixed) ≡ mixins_once l.mixed

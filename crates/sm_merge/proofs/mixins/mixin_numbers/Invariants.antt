use Rattle.std.proofs.Common.{take}
use Rattle.sm_merge.specs.steps.MixinLinks.{LinksTo}
use Rattle.sm_merge.specs.steps.ShapeTables.{ids_of}
use Rattle.sm_merge.proofs.mixins.mixin_numbers.Given as goal

abbrev pub invariant-loop-mixin : goal.invariant-loop-mixin
invariant-loop-mixin l = LinksTo (ids_of l.rows) (take l.mixin-index l.mixins) l.numbers.items

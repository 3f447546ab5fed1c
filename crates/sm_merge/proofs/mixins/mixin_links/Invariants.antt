use Rattle.std.proofs.Common.{take}
use Rattle.sm_merge.specs.steps.Links.{links_view}
use Rattle.sm_merge.specs.steps.MixinLinks.{AreLinksOf, mixins_in}
use Rattle.sm_merge.specs.steps.ShapeTables.{ids_of}
use Rattle.sm_merge.proofs.mixins.mixin_links.Given as goal

abbrev pub invariant-loop-row : goal.invariant-loop-row
invariant-loop-row l = AreLinksOf (ids_of l.rows) (mixins_in (take l.row-index l.rows)) (links_view l.links.items)

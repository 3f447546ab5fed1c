use Rattle.std.proofs.Common.{sym, subst}
use Rattle.sm_merge.specs.steps.Links.{AreLinks, links_view}
use Rattle.sm_merge.specs.steps.MixinLinks.{WalksMixins, mixins_in}
use Rattle.sm_merge.specs.steps.ShapeTables.{ids_of}
use Rattle.sm_merge.specs.steps.Walking.{IsWalked}
use Rattle.std.proofs.lemmas.Result.{IfOk-weaker}
use Rattle.sm_merge.proofs.ShapeNumbers.{links_within, mixin_walk_of, shapes_count}
use Rattle.sm_merge.proofs.mixins.mixin_walk.Goals as goal

pub walk_through-requires : goal.walk_through-requires
walk_through-requires c =
    subst (λ ls. AreLinks (links_view ls)) (sym c.as_slice.ensures.value)
    (links_within (ids_of c.args.rows.now) (mixins_in c.args.rows.now) (links_view c.in_ok-links.links.items) (shapes_count c.args.rows.now)
    c.in_ok-links.ensures)

pub returns : goal.returns
returns c =
    IfOk-weaker c.walk_through.result (IsWalked (links_view c.as_slice.result.now)) (WalksMixins c.args.rows.now)
    (λ walk walked ss h.
    mixin_walk_of ss c.args.rows.now (links_view c.in_ok-links.links.items) h c.in_ok-links.ensures walk
    (subst (λ ls. IsWalked (links_view ls) walk) c.as_slice.ensures.value walked))
    c.walk_through.ensures

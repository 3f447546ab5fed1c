use Rattle.std.proofs.Common.{◌+◌, ◌++◌, [], ◌∷◌, take, refl, sym, ap, subst, ◌∙◌}
use Rattle.sm_merge.specs.steps.Links.{links_view}
use Rattle.sm_merge.specs.steps.MixinLinks.{AreLinksOf, LinksTo, mixins_in}
use Rattle.sm_merge.specs.steps.ShapeTables.{ids_of}
use Rattle.sm_merge.proofs.Ats.{taken_more}
use Rattle.sm_merge.proofs.ShapeNumbers.{links_more, links_view_more, mixins_more}
use Rattle.sm_merge.proofs.mixins.mixin_links.Goals as goal

pub loop-row-preserved : goal.loop-row-preserved
loop-row-preserved c =
    let ids = ids_of c.args.rows.now in
    let before = take c.loop-row.row-index c.args.rows.now in
    let one = subst (λ ms. LinksTo (ids_of c.args.rows.now) ms c.in_ok-mixin_numbers.field-0.items) c.as_slice.ensures.value
    c.in_ok-mixin_numbers.ensures in
    subst (AreLinksOf (ids_of c.args.rows.now) (mixins_in (take (c.loop-row.row-index + 1) c.args.rows.now)))
    (sym (ap links_view c.in_ok-push.ensures.items ∙ links_view_more c.loop-row.links.items c.in_ok-mixin_numbers.field-0))
    (subst (λ ms. AreLinksOf (ids_of c.args.rows.now) ms (links_view c.loop-row.links.items ++ c.in_ok-mixin_numbers.field-0.items ∷ []))
    (sym (ap mixins_in (taken_more c.args.rows.now c.row-item.result c.loop-row.row-index
    (c.loop-row.row-index + 1) refl c.loop-row-test.true
    ∙ ap (λ r. take c.loop-row.row-index c.args.rows.now ++ r ∷ []) (sym c.row-item.is))
    ∙ mixins_more (take c.loop-row.row-index c.args.rows.now) c.row-item.result))
    (links_more (ids_of c.args.rows.now) (mixins_in (take c.loop-row.row-index c.args.rows.now)) (links_view c.loop-row.links.items)
    c.row-item.result.mixins.items c.in_ok-mixin_numbers.field-0.items c.loop-row.invariant one))

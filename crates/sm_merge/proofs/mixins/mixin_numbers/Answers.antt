use Rattle.std.proofs.Common.{◌+◌, ◌++◌, [], ◌∷◌, take, refl, sym, ap, subst, ◌∙◌}
use Rattle.sm_merge.specs.steps.MixinLinks.{LinksTo, PutsNumber}
use Rattle.sm_merge.specs.steps.ShapeTables.{ids_of, shapes_view}
use Rattle.sm_merge.proofs.Ats.{taken_more}
use Rattle.sm_merge.proofs.ShapeNumbers.{listed_once, one_link}
use Rattle.sm_merge.proofs.mixins.mixin_numbers.Goals as goal

pub loop-mixin-preserved : goal.loop-mixin-preserved
loop-mixin-preserved c =
    let i = c.loop-mixin.mixin-index in
    let mixin = c.mixin-item.result in
    let put = subst (λ m. PutsNumber (ids_of c.args.rows.now) m c.loop-mixin.numbers.items c.put_number.new.numbers.items)
    c.as_str.ensures.bytes c.in_ok-put_number.ensures in
    subst (λ ms. LinksTo (ids_of c.args.rows.now) ms c.put_number.new.numbers.items)
    (sym (taken_more c.args.mixins.now c.mixin-item.result c.loop-mixin.mixin-index
    (c.loop-mixin.mixin-index + 1) refl c.loop-mixin-test.true
    ∙ ap (λ m. take c.loop-mixin.mixin-index c.args.mixins.now ++ m ∷ []) (sym c.mixin-item.is)))
    (one_link (ids_of c.args.rows.now) (take c.loop-mixin.mixin-index c.args.mixins.now) c.mixin-item.result c.loop-mixin.numbers.items
    c.put_number.new.numbers.items (listed_once (shapes_view c.args.rows.now) c.requires) put c.loop-mixin.invariant)

use Rattle.std.proofs.Common.{◌≡◌, ◌+◌, ◌≤◌, ◌++◌, [], ◌∷◌, drop, length, refl, sym, ap, subst, ◌∙◌, append-nil}
use Rattle.std.proofs.lemmas.List.{drop_all, drop_more}
use Rattle.sm_merge.specs.steps.MixedIn.{AreBelow, MixIn, PutsMixin}
use Rattle.sm_merge.proofs.MixedMade.{mixin_step}
use Rattle.sm_merge.proofs.effective_mixins.mixed_in.Goals as goal

pub loop-mixin-init : goal.loop-mixin-init
loop-mixin-init c = record {
  below = subst (AreBelow (length c.args.rows.now)) (sym c.in_ok-found.ensures.items) tt;
  mixed = λ ss s t same more h.
      subst (λ cs. MixIn ss c.args.rows.now s c.args.row.now.mixins.items (cs ++ more)) (sym c.in_ok-found.ensures.items) h;
}

pub loop-mixin-preserved : goal.loop-mixin-preserved
loop-mixin-preserved c =
    let parts : drop c.loop-mixin.mixin-index c.args.row.now.mixins.items
    ≡ c.mixin-item.result ∷ drop (c.loop-mixin.mixin-index + 1) c.args.row.now.mixins.items =
    ap (drop c.loop-mixin.mixin-index) (sym c.deref-mixin-items.ensures.value)
    ∙ drop_more c.deref-mixin-items.result.now c.loop-mixin.mixin-index c.mixin-item.result c.loop-mixin-test.true
    ∙ (λ i. sym c.mixin-item.is i ∷ drop (c.loop-mixin.mixin-index + 1) (c.deref-mixin-items.ensures.value i)) in
    record {
      below = c.in_ok-put_mixin.ensures.below c.loop-mixin.invariant.below;
      mixed = λ ss s t same.
          mixin_step ss c.args.rows.now s c.mixin-item.result (drop (c.loop-mixin.mixin-index + 1) c.args.row.now.mixins.items)
          c.args.row.now.mixins.items c.loop-mixin.found.items c.put_mixin.new.found.items
          (subst (λ m. PutsMixin ss c.args.rows.now s m c.loop-mixin.found.items c.put_mixin.new.found.items) c.as_str.ensures.bytes
          (c.in_ok-put_mixin.ensures.put ss s t same))
          (λ more h. c.loop-mixin.invariant.mixed ss s t same more
          (subst (λ ms. MixIn ss c.args.rows.now s ms more) (sym parts) h));
    }

pub returns-clause-mixed : goal.returns-clause-mixed
returns-clause-mixed c = λ ss s t same.
    let ended : drop c.loop-mixin.mixin-index c.args.row.now.mixins.items ≡ [] =
    drop_all c.loop-mixin.mixin-index c.args.row.now.mixins.items
    (subst (λ n. n ≤ c.loop-mixin.mixin-index) (ap length c.deref-mixin-items.ensures.value) c.loop-mixin-test.false) in
    subst (MixIn ss c.args.rows.now s c.args.row.now.mixins.items) (append-nil c.loop-mixin.found.items)
    (c.loop-mixin.invariant.mixed ss s t same [] (subst (λ ms. MixIn ss c.args.rows.now s ms []) (sym ended) refl))

use Rattle.std.proofs.Common.{◌+◌, ◌≤◌, ◌++◌, [], ◌∷◌, length, take, refl, sym, ap, subst, ◌∙◌}
use Rattle.std.proofs.lemmas.List.{take_all}
use Rattle.sm_merge.specs.steps.MixinEvents.{PutsSuch, TellsBad, TellsBadAmong}
use Rattle.sm_merge.proofs.Ats.{taken_more}
use Rattle.sm_merge.proofs.MixinsPut.{among_more, contains_none, puts_more, puts_none}
use Rattle.sm_merge.proofs.mixin_events.put_events_of.Goals as goal

pub loop-mixin-init : goal.loop-mixin-init
loop-mixin-init c = record {
  errors = λ h. h;
  told = λ ss s t same.
      puts_none (TellsBadAmong ss s c.args.row.now.id []) c.args.events.now.items (λ e h. contains_none h.mixin h.among);
}

pub loop-mixin-preserved : goal.loop-mixin-preserved
loop-mixin-preserved c =
    let id = c.args.row.now.id in
    let mixins = c.args.row.now.mixins.items in
    record {
      errors = λ h. c.in_ok-put_mixin_event.ensures.errors (c.loop-mixin.invariant.errors h);
      told = λ ss s t same.
          subst (λ ms. PutsSuch (TellsBadAmong ss s c.args.row.now.id ms) c.args.events.now.items c.put_mixin_event.new.events.items)
          (sym (ap (take (c.loop-mixin.mixin-index + 1)) (sym c.deref-mixin-items.ensures.value)
          ∙ taken_more c.deref-mixin-items.result.now c.mixin-item.result c.loop-mixin.mixin-index (c.loop-mixin.mixin-index + 1) refl
          c.loop-mixin-test.true
          ∙ ap (λ m. take c.loop-mixin.mixin-index c.deref-mixin-items.result.now ++ m ∷ []) (sym c.mixin-item.is)
          ∙ ap (λ ms. take c.loop-mixin.mixin-index ms ++ c.mixin-item.result ∷ []) c.deref-mixin-items.ensures.value))
          (puts_more (TellsBadAmong ss s c.args.row.now.id (take c.loop-mixin.mixin-index c.args.row.now.mixins.items))
          (TellsBad ss s c.args.row.now.id c.mixin-item.result)
          (TellsBadAmong ss s c.args.row.now.id (take c.loop-mixin.mixin-index c.args.row.now.mixins.items ++ c.mixin-item.result ∷ []))
          c.args.events.now.items c.loop-mixin.events.items c.put_mixin_event.new.events.items (c.loop-mixin.invariant.told ss s t same)
          (subst (λ m. PutsSuch (TellsBad ss s c.args.row.now.id m) c.loop-mixin.events.items c.put_mixin_event.new.events.items)
          c.as_str.ensures.bytes (c.in_ok-put_mixin_event.ensures.told ss s t same))
          (among_more ss s c.args.row.now.id (take c.loop-mixin.mixin-index c.args.row.now.mixins.items) c.mixin-item.result));
    }

pub returns-clause-told : goal.returns-clause-told
returns-clause-told c = λ ss s t same.
    subst (λ ms. PutsSuch (TellsBadAmong ss s c.args.row.now.id ms) c.args.events.now.items c.loop-mixin.events.items)
    (take_all c.loop-mixin.mixin-index c.args.row.now.mixins.items
    (subst (λ n. n ≤ c.loop-mixin.mixin-index) (ap length c.deref-mixin-items.ensures.value) c.loop-mixin-test.false))
    (c.loop-mixin.invariant.told ss s t same)

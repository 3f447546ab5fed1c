use Rattle.std.proofs.Common.{◌+◌, ◌++◌, [], ◌∷◌, take, refl, sym, ap, subst, ◌∙◌}
use Rattle.std.proofs.lemmas.List.{take_all}
use Rattle.sm_model.specs.EventView.{AreErrors}
use Rattle.sm_merge.specs.steps.MixinEvents.{PutsSuch, TellsBadAmong, TellsBadMixin}
use Rattle.sm_merge.specs.steps.ShapeTables.{ids_of}
use Rattle.sm_merge.proofs.Ats.{taken_more}
use Rattle.sm_merge.proofs.MixinsPut.{all_told, contains_none, ids_and_more, ids_more, puts_more, puts_none, row_at}
use Rattle.sm_merge.proofs.mixin_events.mixin_events.Goals as goal

pub loop-row-init : goal.loop-row-init
loop-row-init c = record {
  errors = subst AreErrors (sym c.new-events.ensures.items) tt;
  told = λ ss t.
      subst (λ es. PutsSuch (TellsBadMixin ss []) [] es) (sym c.new-events.ensures.items)
      (puts_none (TellsBadMixin ss []) [] (λ e h. contains_none h.id h.there));
}

pub loop-row-preserved : goal.loop-row-preserved
loop-row-preserved c = record {
  errors = c.in_ok-put_events_of.ensures.errors c.loop-row.invariant.errors;
  told = λ ss t.
      let row = row_at ss c.args.rows.now t.shapes c.loop-row.row-index c.row-item.result c.loop-row-test.true c.row-item.is in
      subst (λ rs. PutsSuch (TellsBadMixin ss (ids_of rs)) [] c.put_events_of.new.events.items)
      (sym (taken_more c.args.rows.now c.row-item.result c.loop-row.row-index (c.loop-row.row-index + 1) refl c.loop-row-test.true
      ∙ ap (λ r. take c.loop-row.row-index c.args.rows.now ++ r ∷ []) (sym c.row-item.is)))
      (subst (λ ids. PutsSuch (TellsBadMixin ss ids) [] c.put_events_of.new.events.items)
      (sym (ids_and_more (take c.loop-row.row-index c.args.rows.now) c.row-item.result))
      (puts_more (TellsBadMixin ss (ids_of (take c.loop-row.row-index c.args.rows.now)))
      (TellsBadAmong ss row.s c.row-item.result.id c.row-item.result.mixins.items)
      (TellsBadMixin ss (ids_of (take c.loop-row.row-index c.args.rows.now) ++ c.row-item.result.id ∷ [])) [] c.loop-row.events.items
      c.put_events_of.new.events.items (c.loop-row.invariant.told ss t) (c.in_ok-put_events_of.ensures.told ss row.s t row.kind)
      (ids_more ss row.s (ids_of (take c.loop-row.row-index c.args.rows.now)) c.row-item.result.id c.row-item.result.mixins.items row.there
      row.mixins)));
}

pub returns-clause-told : goal.returns-clause-told
returns-clause-told c = λ ss t.
    all_told ss c.args.rows.now c.args.traits.now c.args.walk.now c.loop-row.events.items t
    (subst (λ rs. PutsSuch (TellsBadMixin ss (ids_of rs)) [] c.loop-row.events.items)
    (take_all c.loop-row.row-index c.args.rows.now c.loop-row-test.false) (c.loop-row.invariant.told ss t))

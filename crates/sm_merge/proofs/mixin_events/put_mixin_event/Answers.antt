use Rattle.std.proofs.Common.{refl, ◌∙◌}
use Rattle.std.specs.Prelude.{codes}
use Rattle.sm_merge.specs.Merged.{model_event}
use Rattle.sm_merge.specs.steps.AllEvents.{mixin_event}
use Rattle.sm_merge.specs.steps.MixinEvents.{TellsBad}
use Rattle.sm_merge.proofs.EventsTold.{put_more}
use Rattle.sm_merge.proofs.MixinsPut.{puts_none, puts_one}
use Rattle.sm_merge.proofs.mixin_events.put_mixin_event.Goals as goal

pub returns-in-Some : goal.returns-in-Some
returns-in-Some c = record {
  errors = λ h. h;
  told = λ ss s t same.
      puts_none (TellsBad ss s c.args.row.now.id c.args.mixin.now) c.args.events.now.items
      (λ e bad. bad.0 (c.in-Some.ensures.told ss s t same).contributes);
}

pub returns-in_ok-push-in-None-clause-errors : goal.returns-in_ok-push-in-None-clause-errors
returns-in_ok-push-in-None-clause-errors c =
    let put = put_more c.args.events.now.items c.push.new.self.items c.in_ok-event-in-None.event
    (mixin_event c.args.row.now.id c.args.mixin.now)
    c.in_ok-push-in-None.ensures.items
    (c.in_ok-event-in-None.ensures.told ∙ (λ i. model_event (c.in_ok-shape-in-None.ensures i) (codes "Model.Mixin") c.args.mixin.now))
    c.in_ok-event-in-None.ensures.severity in
    put.errors

pub returns-in_ok-push-in-None-clause-told : goal.returns-in_ok-push-in-None-clause-told
returns-in_ok-push-in-None-clause-told c = λ ss s t same.
    puts_one (TellsBad ss s c.args.row.now.id c.args.mixin.now) c.args.events.now.items c.push.new.self.items
    (mixin_event c.args.row.now.id c.args.mixin.now)
    (put_more c.args.events.now.items c.push.new.self.items c.in_ok-event-in-None.event (mixin_event c.args.row.now.id c.args.mixin.now)
    c.in_ok-push-in-None.ensures.items
    (c.in_ok-event-in-None.ensures.told ∙ (λ i. model_event (c.in_ok-shape-in-None.ensures i) (codes "Model.Mixin") c.args.mixin.now))
    c.in_ok-event-in-None.ensures.severity)
    (c.in-None.ensures.told ss s t same, refl) (λ e h. h.1)

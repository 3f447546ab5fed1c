use Rattle.std.proofs.Common.{List, ap, subst, sym}
use Rattle.std.specs.Prelude.{◌↔◌}
use Rattle.std.specs.List.{Contains}
use Rattle.sm_model.specs.EventView.{EventTold, events_view}
use Rattle.sm_model.specs.declared.event.ModelEvent.{ModelEvent}
use Rattle.sm_passes.proofs.once.keep_once.Goals as goal

pub returns-clause-same : goal.returns-clause-same
returns-clause-same c =
    let before = c.args.events.now.items in
    let sorted : List ModelEvent = c.sorted_events.result in
    subst (λ es. (e : EventTold) → Contains (events_view before) e ↔ Contains (events_view es) e) (sym c.into_inner.ensures)
    (subst (λ es. (e : EventTold) → Contains (events_view es) e ↔ Contains (events_view sorted) e)
    (ap (λ v. v.items) c.replace-all.ensures.value) c.sorted_events.ensures.same)

pub returns-clause-kept : goal.returns-clause-kept
returns-clause-kept c =
    let sorted : List ModelEvent = c.sorted_events.result in
    subst (λ es. (e : ModelEvent) → Contains es e → Contains c.args.events.now.items e) (sym c.into_inner.ensures)
    (subst (λ es. (e : ModelEvent) → Contains sorted e → Contains es e) (ap (λ v. v.items) c.replace-all.ensures.value)
    c.sorted_events.ensures.kept)

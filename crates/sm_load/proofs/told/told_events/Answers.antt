use Rattle.std.proofs.Common.{subst}
use Rattle.sm_model.specs.GraphView.{maps_of}
use Rattle.sm_rules.specs.RuleEvents.{Puts}
use Rattle.sm_load.specs.steps.Passes.{IsOfRule}
use Rattle.sm_load.proofs.ListTold.{events_told}
use Rattle.sm_load.proofs.told.told_events.Goals as goal

pub returns : goal.returns
returns c =
    let g = maps_of c.args.graph.now in
    events_told g c.put_rules.new.events.items c.in_ok-kept.kept.items c.sorted_events.result
    (subst (λ es. Puts (IsOfRule g) es c.put_rules.new.events.items) c.new-events.ensures.items c.in_ok-put_rules.ensures)
    c.in_ok-kept.ensures c.sorted_events.ensures.same c.sorted_events.ensures.kept c.sorted_events.ensures.order

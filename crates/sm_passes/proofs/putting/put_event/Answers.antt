use Rattle.std.proofs.Common.{ap}
use Rattle.sm_model.specs.EventView.{EventTold}
use Rattle.sm_model.specs.Reaching.{id_of_number}
use Rattle.sm_rules.specs.RuleEvents.{rule_event}
use Rattle.sm_passes.proofs.EventsPut.{put_one}
use Rattle.sm_passes.proofs.putting.put_event.Goals as goal

pub returns : goal.returns
returns c =
    put_one c.args.events.now.items c.push.new.self.items c.in_ok-event.event
    (rule_event c.args.rule (id_of_number c.args.graph.now c.args.number) c.args.detail.now) c.in_ok-push.ensures.items
    c.in_ok-event.ensures.told
    (c.args.rule, ap (λ (t : EventTold). t.event) c.in_ok-event.ensures.told, c.in_ok-event.ensures.severity)

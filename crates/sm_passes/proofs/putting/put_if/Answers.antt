use Rattle.sm_model.specs.Reaching.{id_of_number}
use Rattle.sm_rules.specs.RuleEvents.{rule_event}
use Rattle.sm_passes.proofs.EventsPut.{puts_where}
use Rattle.sm_passes.proofs.putting.put_if.Goals as goal

pub returns-in_ok-put_event : goal.returns-in_ok-put_event
returns-in_ok-put_event c =
    puts_where c.args.wrong (rule_event c.args.rule (id_of_number c.args.graph.now c.args.number) c.args.detail.now) c.args.events.now.items
    c.put_event.new.events.items c.if-wrong.true c.in_ok-put_event.ensures

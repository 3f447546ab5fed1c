use Rattle.sm_name_rules.proofs.RepeatedNames.{named_once, not_named}
use Rattle.sm_name_rules.proofs.repeats.NamesOfOfFirst.put_of.Goals as goal

pub returns-in_ok-put_event-in-Some : goal.returns-in_ok-put_event-in-Some
returns-in_ok-put_event-in-Some c =
    named_once c.args.graph.now c.args.self.now.shape c.args.first c.args.number c.in-Some.name.now c.args.events.now.items
    c.put_event.new.events.items c.in-Some.ensures c.in_ok-put_event-in-Some.ensures

pub returns-in-None : goal.returns-in-None
returns-in-None c =
    not_named c.args.graph.now c.args.self.now.shape c.args.first c.args.number c.args.events.now.items c.in-None.ensures

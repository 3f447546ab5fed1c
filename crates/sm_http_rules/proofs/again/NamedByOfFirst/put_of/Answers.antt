use Rattle.sm_http_rules.proofs.NamesAgain.{name_put, no_name}
use Rattle.sm_http_rules.proofs.again.NamedByOfFirst.put_of.Goals as goal

pub returns-in_ok-put_event-in-Some : goal.returns-in_ok-put_event-in-Some
returns-in_ok-put_event-in-Some c =
    name_put c.args.self.now.naming c.args.graph.now c.args.self.now.shape c.args.number c.args.number c.in-Some.name.now c.in-Some.ensures
    c.args.events.now.items c.put_event.new.events.items c.in_ok-put_event-in-Some.ensures

pub returns-in-None : goal.returns-in-None
returns-in-None c =
    no_name c.args.self.now.naming c.args.graph.now c.args.self.now.shape c.args.number c.args.number c.in-None.ensures
    c.args.events.now.items

use Rattle.sm_model.specs.GraphView.{maps_of}
use Rattle.sm_model.specs.Reaching.{id_of_number}
use Rattle.sm_reference_rules.proofs.MissingTargets.{nothing_missing, standing_there, told_missing}
use Rattle.sm_reference_rules.proofs.missing.put_if_missing.Goals as goal

pub returns-in-Some : goal.returns-in-Some
returns-in-Some c =
    nothing_missing (maps_of c.args.graph.now) (id_of_number c.args.graph.now c.args.from) c.args.id.now
    (standing_there c.args.graph.now _ c.args.id.now c.in-Some.ensures) c.args.events.now.items

pub returns-in_ok-put_event-in-None : goal.returns-in_ok-put_event-in-None
returns-in_ok-put_event-in-None c =
    told_missing (maps_of c.args.graph.now) (id_of_number c.args.graph.now c.args.from) c.args.id.now c.in-None.ensures
    c.args.events.now.items
    c.put_event.new.events.items c.in_ok-put_event-in-None.ensures

use Rattle.std.proofs.Common.{sym}
use Rattle.sm_model.specs.GraphView.{maps_of}
use Rattle.sm_model.specs.Reaching.{id_of_number}
use Rattle.sm_reference_rules.proofs.MissingTargets.{no_target, target_put}
use Rattle.sm_reference_rules.proofs.missing.TargetedAtOwn.put_own.Goals as goal

pub returns-in_ok-put_if_missing-in-Some : goal.returns-in_ok-put_if_missing-in-Some
returns-in_ok-put_if_missing-in-Some c =
    target_put (maps_of c.args.graph.now) (id_of_number c.args.graph.now c.args.number)
    c.requires.own c.in-Some.id.now
    (sym c.in-Some.ensures) c.args.events.now.items c.put_if_missing.new.events.items c.in_ok-put_if_missing-in-Some.ensures

pub returns-in-None : goal.returns-in-None
returns-in-None c =
    no_target (maps_of c.args.graph.now) (id_of_number c.args.graph.now c.args.number) (sym c.in-None.ensures) c.args.events.now.items

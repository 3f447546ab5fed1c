use Rattle.std.proofs.Common.{◌∙◌}
use Rattle.sm_model.specs.Reaching.{id_of_number}
use Rattle.sm_reference_rules.proofs.TargetKinds.{key_named, not_named}
use Rattle.sm_reference_rules.proofs.kinds.is_key.Goals as goal

pub returns-in-Some : goal.returns-in-Some
returns-in-Some c =
    c.eq.ensures
    ∙ key_named (id_of_number c.args.graph.now c.args.shape) (id_of_number c.args.graph.now c.args.member) c.in-Some.name.now
    c.in-Some.ensures

pub returns-in-None : goal.returns-in-None
returns-in-None c = not_named (id_of_number c.args.graph.now c.args.shape) (id_of_number c.args.graph.now c.args.member) c.in-None.ensures

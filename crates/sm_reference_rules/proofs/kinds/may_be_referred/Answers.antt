use Rattle.std.proofs.Common.{ap, sym, ◌∙◌}
use Rattle.std.specs.FinMap as fin
use Rattle.sm_model.specs.GraphView.{maps_of}
use Rattle.sm_model.specs.Reaching.{id_of_number}
use Rattle.sm_reference_rules.specs.steps.Targets.{may_be_of}
use Rattle.sm_reference_rules.proofs.TargetKinds.{no_shape_referred, shape_referred}
use Rattle.sm_reference_rules.proofs.kinds.may_be_referred.Goals as goal

pub returns-in-Some : goal.returns-in-Some
returns-in-Some c =
    c.may_be_of.ensures ∙ ap (may_be_of c.args.relation c.in-Some.kind) c.has_trait.ensures
    ∙ shape_referred c.args.relation c.in-Some.kind (fin.get (maps_of c.args.graph.now).shapes
    (id_of_number c.args.graph.now c.args.number))
    (sym c.in-Some.ensures)

pub returns-in-None : goal.returns-in-None
returns-in-None c = no_shape_referred c.args.graph.now c.args.number c.requires c.args.relation (sym c.in-None.ensures)

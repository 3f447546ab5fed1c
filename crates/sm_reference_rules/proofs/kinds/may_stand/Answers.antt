use Rattle.std.proofs.Common.{sym, ◌∙◌}
use Rattle.std.specs.FinMap as fin
use Rattle.sm_model.specs.GraphView.{maps_of}
use Rattle.sm_model.specs.Reaching.{id_of_number}
use Rattle.sm_reference_rules.proofs.TargetKinds.{no_shape_stands, shape_stands}
use Rattle.sm_reference_rules.proofs.kinds.may_stand.Goals as goal

pub returns-in-Some : goal.returns-in-Some
returns-in-Some c =
    c.may_be_target.ensures
    ∙ shape_stands c.args.home c.args.key c.args.unit c.in-Some.kind
    (fin.get (maps_of c.args.graph.now).shapes (id_of_number c.args.graph.now c.args.target)) (sym c.in-Some.ensures)

pub returns-in-None : goal.returns-in-None
returns-in-None c =
    no_shape_stands c.args.graph.now c.args.target c.requires c.args.home c.args.key c.args.unit (sym c.in-None.ensures)

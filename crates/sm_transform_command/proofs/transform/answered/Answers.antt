use Rattle.sm_model.specs.GraphView.{maps_of}
use Rattle.sm_transformed.specs.Transformed.{change_of}
use Rattle.sm_transform_command.specs.TransformForm.{change_asked}
use Rattle.sm_transform_command.proofs.Transforms.{change_comes, meant_said, no_change_stops}
use Rattle.sm_transform_command.proofs.transform.answered.Goals as goal

pub changed_text-requires-clause-said : goal.changed_text-requires-clause-said
changed_text-requires-clause-said c =
    meant_said (change_asked c.args.asked) (change_of c.in-Ok.change) c.requires.named c.in-Ok.ensures

pub returns-in-Ok : goal.returns-in-Ok
returns-in-Ok c =
    change_comes (maps_of c.args.graph) (change_of c.in-Ok.change) (change_asked c.args.asked) c.changed_text.result c.in-Ok.ensures
    c.changed_text.ensures

pub returns-in-Err : goal.returns-in-Err
returns-in-Err c = no_change_stops (maps_of c.args.graph) (change_asked c.args.asked) c.in-Err.stop c.in-Err.ensures

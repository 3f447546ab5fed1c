use Rattle.sm_model.specs.GraphView.{maps_of}
use Rattle.sm_transformed.specs.Transformed.{change_of}
use Rattle.sm_transform_command.proofs.Transforms.{made_json, made_printed}
use Rattle.sm_transform_command.proofs.transform.changed_text.Goals as goal

pub ast_text-requires : goal.ast_text-requires
ast_text-requires c =
    made_json (maps_of c.args.graph) (change_of c.args.change.now) c.in-Ok.model c.requires.may c.requires.said c.in-Ok.ensures

pub returns-in-Ok-ast_text : goal.returns-in-Ok-ast_text
returns-in-Ok-ast_text c =
    made_printed (maps_of c.args.graph) (change_of c.args.change.now) c.in-Ok.model c.in-Ok-ast_text.text c.in-Ok.ensures
    c.in-Ok-ast_text.ensures

pub returns : goal.returns
returns c = c.no_model.ensures (maps_of c.args.graph) (change_of c.args.change.now) c.in-Err.ensures

use Rattle.sm_model.specs.GraphView.{maps_of}
use Rattle.sm_load.specs.ModelFiles.{given_files}
use Rattle.sm_load.proofs.GraphsMade.{model_made, no_graph}
use Rattle.sm_load.proofs.loading.load.Goals as goal

pub returns-in-Ok : goal.returns-in-Ok
returns-in-Ok c = model_made (given_files c.args.files.items) (maps_of c.in-Ok.graph) c.checked.result c.in-Ok.ensures c.checked.ensures

pub returns-in-Err : goal.returns-in-Err
returns-in-Err c = no_graph (given_files c.args.files.items) c.in-Err.refusal c.in-Err.ensures

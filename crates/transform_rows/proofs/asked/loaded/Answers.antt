use Rattle.sm_model.specs.GraphView.{maps_of}
use Rattle.sm_load.specs.ModelFiles.{given_files}
use Rattle.transform_rows.proofs.asked.loaded.Goals as goal

pub returns-in-Ok-clause-formed : goal.returns-in-Ok-clause-formed
returns-in-Ok-clause-formed c =
    (c.accepted_may_change.ensures (given_files c.args.files.items) (maps_of c.in-Ok.model.graph) c.in-Ok.ensures.accepted).0

pub returns-in-Ok-clause-traits : goal.returns-in-Ok-clause-traits
returns-in-Ok-clause-traits c =
    (c.accepted_may_change.ensures (given_files c.args.files.items) (maps_of c.in-Ok.model.graph) c.in-Ok.ensures.accepted).1

use Rattle.sm_model.specs.GraphView.{maps_of}
use Rattle.sm_load.specs.ModelFiles.{given_files}
use Rattle.service_rows.proofs.asked.loaded.Goals as goal

pub returns-in-Ok : goal.returns-in-Ok
returns-in-Ok c service =
    c.sound_models.ensures.services (given_files c.args.files.items) (maps_of c.in-Ok.model.graph) c.in-Ok.ensures.accepted service

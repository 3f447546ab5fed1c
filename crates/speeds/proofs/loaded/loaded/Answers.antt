use Rattle.sm_model.specs.GraphView.{maps_of}
use Rattle.sm_load.specs.ModelFiles.{given_files}
use Rattle.speeds.proofs.loaded.loaded.Goals as goal

pub returns-in-Ok-load : goal.returns-in-Ok-load
returns-in-Ok-load c service =
    c.sound_models.ensures.services (given_files c.in-Ok-vec.files.items) (maps_of c.in-Ok-load.model.graph) c.in-Ok-load.ensures.accepted
    service

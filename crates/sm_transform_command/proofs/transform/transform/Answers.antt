use Rattle.sm_io.specs.Seen.{files_seen}
use Rattle.sm_model.specs.GraphView.{maps_of}
use Rattle.sm_transform_command.specs.TransformForm.{change_asked}
use Rattle.sm_transform_command.proofs.Transforms.{graph_transforms, may_transform, transform_stops}
use Rattle.sm_transform_command.proofs.transform.transform.Goals as goal

pub answered-requires-clause-may : goal.answered-requires-clause-may
answered-requires-clause-may g c =
    let loads = c.in-Ok.ensures.loads in
    may_transform c.accepted_may_change.ensures loads.0.texts.read loads.0.graph (maps_of c.in-Ok.model.graph) loads.0.accepted loads.1

pub returns-in-Ok-clause-comes : goal.returns-in-Ok-clause-comes
returns-in-Ok-clause-comes g c =
    graph_transforms (files_seen (g.F.Files.held c.args.files.now) (g.F.Files.read_faults c.args.files.now)
    (g.F.Files.write_faults c.args.files.now))
    (files_seen (g.F.Files.held c.load_models.new.files) (g.F.Files.read_faults c.load_models.new.files)
    (g.F.Files.write_faults c.load_models.new.files))
    c.args.words.models.now (change_asked c.args.words.change) c.in-Ok.model c.answered.result c.in-Ok.ensures.loads c.answered.ensures

pub returns-in-Err-clause-comes : goal.returns-in-Err-clause-comes
returns-in-Err-clause-comes g c =
    transform_stops (files_seen (g.F.Files.held c.args.files.now) (g.F.Files.read_faults c.args.files.now)
    (g.F.Files.write_faults c.args.files.now))
    (files_seen (g.F.Files.held c.load_models.new.files) (g.F.Files.read_faults c.load_models.new.files)
    (g.F.Files.write_faults c.load_models.new.files))
    c.args.words.models.now (change_asked c.args.words.change) c.in-Err.stop c.in-Err.ensures.loads

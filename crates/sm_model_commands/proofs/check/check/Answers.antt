use Rattle.sm_io.specs.Seen.{files_seen}
use Rattle.sm_model_commands.proofs.Checks.{check_stops, events_told}
use Rattle.sm_model_commands.proofs.check.check.Goals as goal

pub returns-in-Ok-clause-comes : goal.returns-in-Ok-clause-comes
returns-in-Ok-clause-comes g c =
    events_told (files_seen (g.F.Files.held c.args.files.now) (g.F.Files.read_faults c.args.files.now)
    (g.F.Files.write_faults c.args.files.now))
    (files_seen (g.F.Files.held c.load_models.new.files) (g.F.Files.read_faults c.load_models.new.files)
    (g.F.Files.write_faults c.load_models.new.files))
    c.args.words.models.now
    c.in-Ok.model c.told.result c.in-Ok.ensures.loads c.told.ensures

pub returns-in-Err-clause-comes : goal.returns-in-Err-clause-comes
returns-in-Err-clause-comes g c =
    check_stops (files_seen (g.F.Files.held c.args.files.now) (g.F.Files.read_faults c.args.files.now)
    (g.F.Files.write_faults c.args.files.now))
    (files_seen (g.F.Files.held c.load_models.new.files) (g.F.Files.read_faults c.load_models.new.files)
    (g.F.Files.write_faults c.load_models.new.files))
    c.args.words.models.now
    c.in-Err.stop c.in-Err.ensures.loads

use Rattle.sm_io.specs.Seen.{files_seen}
use Rattle.sm_model_commands.proofs.Selects.{graph_selects, select_stops}
use Rattle.sm_model_commands.proofs.select.select.Goals as goal

pub returns-in-Ok-clause-comes : goal.returns-in-Ok-clause-comes
returns-in-Ok-clause-comes g c =
    graph_selects (files_seen (g.F.Files.held c.args.files.now) (g.F.Files.read_faults c.args.files.now)
    (g.F.Files.write_faults c.args.files.now))
    (files_seen (g.F.Files.held c.load_models.new.files) (g.F.Files.read_faults c.load_models.new.files)
    (g.F.Files.write_faults c.load_models.new.files))
    c.args.words.models.now c.args.words.selector.now c.in-Ok.model c.selected.result c.in-Ok.ensures.loads c.selected.ensures

pub returns-in-Err-clause-comes : goal.returns-in-Err-clause-comes
returns-in-Err-clause-comes g c =
    select_stops (files_seen (g.F.Files.held c.args.files.now) (g.F.Files.read_faults c.args.files.now)
    (g.F.Files.write_faults c.args.files.now))
    (files_seen (g.F.Files.held c.load_models.new.files) (g.F.Files.read_faults c.load_models.new.files)
    (g.F.Files.write_faults c.load_models.new.files))
    c.args.words.models.now c.args.words.selector.now c.in-Err.stop c.in-Err.ensures.loads

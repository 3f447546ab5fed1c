use Rattle.sm_asked.specs.declared.lines.Shown.TheVariants.{Errors}
use Rattle.sm_io.specs.Seen.{files_seen}
use Rattle.sm_asked.proofs.Loads.{file_loads, file_stops}
use Rattle.sm_asked.proofs.loading.load_file.Goals as goal

pub returns-in-Ok-clause-loads : goal.returns-in-Ok-clause-loads
returns-in-Ok-clause-loads g c =
    file_loads Errors (files_seen (g.F.Files.held c.args.files.now) (g.F.Files.read_faults c.args.files.now)
    (g.F.Files.write_faults c.args.files.now))
    (files_seen (g.F.Files.held c.open_file.new.files) (g.F.Files.read_faults c.open_file.new.files)
    (g.F.Files.write_faults c.open_file.new.files))
    c.args.name.now c.in-Ok.bytes.items
    c.model_of_one.result c.in-Ok.ensures.opens.0 c.in-Ok.ensures.opens.1 c.model_of_one.ensures

pub returns-in-Err-clause-loads : goal.returns-in-Err-clause-loads
returns-in-Err-clause-loads g c =
    file_stops Errors (files_seen (g.F.Files.held c.args.files.now) (g.F.Files.read_faults c.args.files.now)
    (g.F.Files.write_faults c.args.files.now))
    (files_seen (g.F.Files.held c.open_file.new.files) (g.F.Files.read_faults c.open_file.new.files)
    (g.F.Files.write_faults c.open_file.new.files))
    c.args.name.now c.in-Err.stop
    c.in-Err.ensures.opens

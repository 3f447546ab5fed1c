use Rattle.std.proofs.Common.{rules}
use Rattle.sm_io.specs.Seen.{files_seen}
use Rattle.sm_load.specs.ModelFiles.{given_files}
use Rattle.sm_asked.specs.Lines.{files_limit_line}
use Rattle.sm_asked.proofs.Loads.{files_many, model_loads, read_names}
use Rattle.sm_asked.proofs.loading.load_models.Goals as goal

pub returns-then-models-gt-FILES_LIMIT-clause-loads : goal.returns-then-models-gt-FILES_LIMIT-clause-loads
returns-then-models-gt-FILES_LIMIT-clause-loads g c =
    let seen = files_seen (g.F.Files.held c.args.files.now) (g.F.Files.read_faults c.args.files.now)
    (g.F.Files.write_faults c.args.files.now) in
    files_many c.args.shown seen seen c.args.models.now c.past.result (search rules) (c.past.ensures files_limit_line c.limit_line.ensures)

pub model_of-requires : goal.model_of-requires
model_of-requires g c =
    read_names (g.F.Files.held c.args.files.now) 0 c.args.models.now (given_files c.in-Ok.read.items) c.in-Ok.ensures.reads

pub returns-in-Ok-clause-loads : goal.returns-in-Ok-clause-loads
returns-in-Ok-clause-loads g c =
    model_loads c.args.shown (files_seen (g.F.Files.held c.args.files.now) (g.F.Files.read_faults c.args.files.now)
    (g.F.Files.write_faults c.args.files.now))
    (files_seen (g.F.Files.held c.read_models.new.files) (g.F.Files.read_faults c.read_models.new.files)
    (g.F.Files.write_faults c.read_models.new.files))
    c.args.models.now (given_files c.in-Ok.read.items) c.model_of.result (search rules) c.in-Ok.ensures.reads c.model_of.ensures

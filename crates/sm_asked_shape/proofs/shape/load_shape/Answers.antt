use Rattle.std.proofs.Common.{subst, sym}
use Rattle.sm_io.specs.Seen.{files_seen}
use Rattle.sm_model.specs.GraphView.{maps_of}
use Rattle.sm_compile.specs.Answers.{seen_store}
use Rattle.sm_compile.specs.Sound.{Sound}
use Rattle.sm_asked_shape.proofs.ShapesLoaded.{file_stops, shape_loaded, shape_readable, shape_refused}
use Rattle.sm_asked_shape.proofs.TablesNamed.{table_ready}
use Rattle.sm_asked_shape.proofs.shape.load_shape.Goals as goal

pub returns-in-Err-clause-loads : goal.returns-in-Err-clause-loads
returns-in-Err-clause-loads g c =
    file_stops (files_seen (g.F.Files.held c.args.files.now) (g.F.Files.read_faults c.args.files.now)
    (g.F.Files.write_faults c.args.files.now))
    (files_seen (g.F.Files.held c.load_file.new.files) (g.F.Files.read_faults c.load_file.new.files)
    (g.F.Files.write_faults c.load_file.new.files))
    g.P.Patterns.test
    (seen_store (g.P.Patterns.added c.args.patterns.now) (g.P.Patterns.refused c.args.patterns.now)
    (g.P.Patterns.refusals c.args.patterns.now))
    c.args.model.now c.args.shape.now c.in-Err.stop c.in-Err.ensures.loads

pub table_named-made-requires : goal.table_named-made-requires
table_named-made-requires g c =
    let loads = c.in-Ok.ensures.loads in
    subst (λ x. Sound x c.args.shape.now) (sym loads.1)
    (c.sound_models.ensures.shapes loads.0.texts.read loads.0.graph loads.0.accepted c.args.shape.now)

pub filled_shape-requires : goal.filled_shape-requires
filled_shape-requires g c =
    table_ready (maps_of c.in-Ok.model.graph) c.args.shape.now g.P.Patterns.test
    (seen_store (g.P.Patterns.added c.args.patterns.now) (g.P.Patterns.refused c.args.patterns.now)
    (g.P.Patterns.refusals c.args.patterns.now))
    (seen_store (g.P.Patterns.added c.table_named-made.new.patterns) (g.P.Patterns.refused c.table_named-made.new.patterns)
    (g.P.Patterns.refusals c.table_named-made.new.patterns))
    c.in-Ok-made.one c.in-Ok-made.ensures.makes

pub returns-in-Ok-made-clause-loads : goal.returns-in-Ok-made-clause-loads
returns-in-Ok-made-clause-loads g c =
    shape_loaded (files_seen (g.F.Files.held c.args.files.now) (g.F.Files.read_faults c.args.files.now)
    (g.F.Files.write_faults c.args.files.now))
    (files_seen (g.F.Files.held c.load_file.new.files) (g.F.Files.read_faults c.load_file.new.files)
    (g.F.Files.write_faults c.load_file.new.files))
    g.P.Patterns.test
    (seen_store (g.P.Patterns.added c.args.patterns.now) (g.P.Patterns.refused c.args.patterns.now)
    (g.P.Patterns.refusals c.args.patterns.now))
    (seen_store (g.P.Patterns.added c.filled_shape.new.patterns) (g.P.Patterns.refused c.filled_shape.new.patterns)
    (g.P.Patterns.refusals c.filled_shape.new.patterns))
    c.args.model.now c.args.shape.now c.in-Ok.model
    (seen_store (g.P.Patterns.added c.table_named-made.new.patterns) (g.P.Patterns.refused c.table_named-made.new.patterns)
    (g.P.Patterns.refusals c.table_named-made.new.patterns))
    c.in-Ok-made.one c.filled_shape.result c.in-Ok.ensures.loads c.in-Ok-made.ensures.makes c.filled_shape.ensures.refusals
    c.filled_shape.ensures.fills

pub returns-in-Ok-made-clause-readable : goal.returns-in-Ok-made-clause-readable
returns-in-Ok-made-clause-readable g c =
    shape_readable c.in-Ok-made.one g.P.Patterns.test (g.P.Patterns.added c.filled_shape.new.patterns) c.filled_shape.result
    c.filled_shape.ensures.fills

pub returns-in-Err-made-clause-loads : goal.returns-in-Err-made-clause-loads
returns-in-Err-made-clause-loads g c =
    shape_refused (files_seen (g.F.Files.held c.args.files.now) (g.F.Files.read_faults c.args.files.now)
    (g.F.Files.write_faults c.args.files.now))
    (files_seen (g.F.Files.held c.load_file.new.files) (g.F.Files.read_faults c.load_file.new.files)
    (g.F.Files.write_faults c.load_file.new.files))
    g.P.Patterns.test
    (seen_store (g.P.Patterns.added c.args.patterns.now) (g.P.Patterns.refused c.args.patterns.now)
    (g.P.Patterns.refusals c.args.patterns.now))
    (seen_store (g.P.Patterns.added c.table_named-made.new.patterns) (g.P.Patterns.refused c.table_named-made.new.patterns)
    (g.P.Patterns.refusals c.table_named-made.new.patterns))
    c.args.model.now c.args.shape.now c.in-Ok.model c.in-Err-made.stop c.in-Ok.ensures.loads c.in-Err-made.ensures.makes

use Rattle.std.proofs.Common.{None, Ok, Err, true, sym, subst, ◌∙◌}
use Rattle.sm_io.specs.Seen.{files_seen}
use Rattle.sm_model.specs.GraphView.{maps_of}
use Rattle.sm_compile.specs.Answers.{seen_store}
use Rattle.sm_compile.specs.Sound.{Sound}
use Rattle.sm_asked_shape.specs.asked.Stages.{told}
use Rattle.sm_asked_shape.proofs.ShapesLoaded.{file_stops, shape_loaded, shape_refused}
use Rattle.sm_asked_shape.proofs.TablesNamed.{table_ready}
use Rattle.sm_schema_command.proofs.CompiledValues.{loaded_values}
use Rattle.sm_schema_command.proofs.Schemas.{says_noted, schema_prints, schema_stops}
use Rattle.sm_schema_command.proofs.schema.described_schema.Goals as goal

pub returns-in-Err-clause-comes : goal.returns-in-Err-clause-comes
returns-in-Err-clause-comes g c = λ input.
    schema_stops (files_seen (g.F.Files.held c.args.files.now) (g.F.Files.read_faults c.args.files.now)
    (g.F.Files.write_faults c.args.files.now))
    (files_seen (g.F.Files.held c.load_file.new.files) (g.F.Files.read_faults c.load_file.new.files)
    (g.F.Files.write_faults c.load_file.new.files))
    g.P.Patterns.test (seen_store (g.P.Patterns.added c.args.patterns.now) (g.P.Patterns.refused c.args.patterns.now)
    (g.P.Patterns.refusals c.args.patterns.now))
    (seen_store (g.P.Patterns.added c.args.patterns.now) (g.P.Patterns.refused c.args.patterns.now)
    (g.P.Patterns.refusals c.args.patterns.now))
    c.args.words.model.now c.args.words.shape.now c.args.words.json_names true input c.in-Err.stop c.load_file.ensures.held
    (file_stops (files_seen (g.F.Files.held c.args.files.now) (g.F.Files.read_faults c.args.files.now)
    (g.F.Files.write_faults c.args.files.now))
    (files_seen (g.F.Files.held c.load_file.new.files) (g.F.Files.read_faults c.load_file.new.files)
    (g.F.Files.write_faults c.load_file.new.files))
    g.P.Patterns.test (seen_store (g.P.Patterns.added c.args.patterns.now) (g.P.Patterns.refused c.args.patterns.now)
    (g.P.Patterns.refusals c.args.patterns.now))
    c.args.words.model.now c.args.words.shape.now c.in-Err.stop c.in-Err.ensures.loads)

pub table_named-requires : goal.table_named-requires
table_named-requires g c =
    let loads = c.in-Ok.ensures.loads in
    subst (λ x. Sound x c.args.words.shape.now) (sym loads.1)
    (c.sound_models.ensures.shapes loads.0.texts.read loads.0.graph loads.0.accepted c.args.words.shape.now)

pub returns-in-Err-table_named-clause-comes : goal.returns-in-Err-table_named-clause-comes
returns-in-Err-table_named-clause-comes g c = λ input.
    schema_stops (files_seen (g.F.Files.held c.args.files.now) (g.F.Files.read_faults c.args.files.now)
    (g.F.Files.write_faults c.args.files.now))
    (files_seen (g.F.Files.held c.load_file.new.files) (g.F.Files.read_faults c.load_file.new.files)
    (g.F.Files.write_faults c.load_file.new.files))
    g.P.Patterns.test (seen_store (g.P.Patterns.added c.args.patterns.now) (g.P.Patterns.refused c.args.patterns.now)
    (g.P.Patterns.refusals c.args.patterns.now))
    (seen_store (g.P.Patterns.added c.table_named.new.patterns) (g.P.Patterns.refused c.table_named.new.patterns)
    (g.P.Patterns.refusals c.table_named.new.patterns))
    c.args.words.model.now c.args.words.shape.now c.args.words.json_names true input c.in-Err-table_named.stop c.load_file.ensures.held
    (shape_refused (files_seen (g.F.Files.held c.args.files.now) (g.F.Files.read_faults c.args.files.now)
    (g.F.Files.write_faults c.args.files.now))
    (files_seen (g.F.Files.held c.load_file.new.files) (g.F.Files.read_faults c.load_file.new.files)
    (g.F.Files.write_faults c.load_file.new.files))
    g.P.Patterns.test (seen_store (g.P.Patterns.added c.args.patterns.now) (g.P.Patterns.refused c.args.patterns.now)
    (g.P.Patterns.refusals c.args.patterns.now))
    (seen_store (g.P.Patterns.added c.table_named.new.patterns) (g.P.Patterns.refused c.table_named.new.patterns)
    (g.P.Patterns.refusals c.table_named.new.patterns))
    c.args.words.model.now c.args.words.shape.now
    c.in-Ok.model c.in-Err-table_named.stop c.in-Ok.ensures.loads c.in-Err-table_named.ensures.makes)

pub filled_shape-requires : goal.filled_shape-requires
filled_shape-requires g c =
    table_ready (maps_of c.in-Ok.model.graph) c.args.words.shape.now g.P.Patterns.test
    (seen_store (g.P.Patterns.added c.args.patterns.now) (g.P.Patterns.refused c.args.patterns.now)
    (g.P.Patterns.refusals c.args.patterns.now))
    (seen_store (g.P.Patterns.added c.table_named.new.patterns) (g.P.Patterns.refused c.table_named.new.patterns)
    (g.P.Patterns.refusals c.table_named.new.patterns))
    c.in-Ok-table_named.made c.in-Ok-table_named.ensures.makes

pub named_text-requires-clause-values : goal.named_text-requires-clause-values
named_text-requires-clause-values g c =
    loaded_values (told (g.F.Files.held c.args.files.now) None g.P.Patterns.test (seen_store (g.P.Patterns.added c.args.patterns.now) (g.P.Patterns.refused c.args.patterns.now)
    (g.P.Patterns.refusals c.args.patterns.now)) None)
    c.args.words.model.now c.args.words.shape.now c.in-Ok-filled_shape.one
    ((shape_loaded (files_seen (g.F.Files.held c.args.files.now) (g.F.Files.read_faults c.args.files.now)
    (g.F.Files.write_faults c.args.files.now))
    (files_seen (g.F.Files.held c.load_file.new.files) (g.F.Files.read_faults c.load_file.new.files)
    (g.F.Files.write_faults c.load_file.new.files))
    g.P.Patterns.test (seen_store (g.P.Patterns.added c.args.patterns.now) (g.P.Patterns.refused c.args.patterns.now)
    (g.P.Patterns.refusals c.args.patterns.now))
    (seen_store (g.P.Patterns.added c.filled_shape.new.patterns) (g.P.Patterns.refused c.filled_shape.new.patterns)
    (g.P.Patterns.refusals c.filled_shape.new.patterns))
    c.args.words.model.now c.args.words.shape.now
    c.in-Ok.model (seen_store (g.P.Patterns.added c.table_named.new.patterns) (g.P.Patterns.refused c.table_named.new.patterns)
    (g.P.Patterns.refusals c.table_named.new.patterns))
    c.in-Ok-table_named.made (Ok c.in-Ok-filled_shape.one) c.in-Ok.ensures.loads c.in-Ok-table_named.ensures.makes
    c.filled_shape.ensures.refusals c.in-Ok-filled_shape.ensures.fills).1 None)

pub returns-in-Ok-named_text-clause-comes : goal.returns-in-Ok-named_text-clause-comes
returns-in-Ok-named_text-clause-comes g c = λ input.
    schema_prints (files_seen (g.F.Files.held c.args.files.now) (g.F.Files.read_faults c.args.files.now)
    (g.F.Files.write_faults c.args.files.now))
    (files_seen (g.F.Files.held c.load_file.new.files) (g.F.Files.read_faults c.load_file.new.files)
    (g.F.Files.write_faults c.load_file.new.files))
    g.P.Patterns.test (seen_store (g.P.Patterns.added c.args.patterns.now) (g.P.Patterns.refused c.args.patterns.now)
    (g.P.Patterns.refusals c.args.patterns.now))
    (seen_store (g.P.Patterns.added c.filled_shape.new.patterns) (g.P.Patterns.refused c.filled_shape.new.patterns)
    (g.P.Patterns.refusals c.filled_shape.new.patterns))
    c.args.words.model.now c.args.words.shape.now c.args.words.json_names true input c.in-Ok-named_text.text
    (c.filled_shape.ensures.refusals ∙ c.in-Ok-table_named.ensures.makes.compiled.refusals)
    (says_noted (files_seen (g.F.Files.held c.args.files.now) (g.F.Files.read_faults c.args.files.now)
    (g.F.Files.write_faults c.args.files.now))
    (files_seen (g.F.Files.held c.load_file.new.files) (g.F.Files.read_faults c.load_file.new.files)
    (g.F.Files.write_faults c.load_file.new.files))
    g.P.Patterns.test (seen_store (g.P.Patterns.added c.args.patterns.now) (g.P.Patterns.refused c.args.patterns.now)
    (g.P.Patterns.refusals c.args.patterns.now))
    (seen_store (g.P.Patterns.added c.filled_shape.new.patterns) (g.P.Patterns.refused c.filled_shape.new.patterns)
    (g.P.Patterns.refusals c.filled_shape.new.patterns))
    c.args.words.model.now c.args.words.shape.now c.args.words.json_names input
    c.in-Ok.model (seen_store (g.P.Patterns.added c.table_named.new.patterns) (g.P.Patterns.refused c.table_named.new.patterns)
    (g.P.Patterns.refusals c.table_named.new.patterns))
    c.in-Ok-table_named.made c.in-Ok-filled_shape.one c.in-Ok-named_text.text.items c.in-Ok.ensures.loads c.in-Ok-table_named.ensures.makes
    c.in-Ok-filled_shape.ensures.fills c.in-Ok-named_text.ensures)

pub returns-clause-comes : goal.returns-clause-comes
returns-clause-comes g c = λ input.
    schema_stops (files_seen (g.F.Files.held c.args.files.now) (g.F.Files.read_faults c.args.files.now)
    (g.F.Files.write_faults c.args.files.now))
    (files_seen (g.F.Files.held c.load_file.new.files) (g.F.Files.read_faults c.load_file.new.files)
    (g.F.Files.write_faults c.load_file.new.files))
    g.P.Patterns.test (seen_store (g.P.Patterns.added c.args.patterns.now) (g.P.Patterns.refused c.args.patterns.now)
    (g.P.Patterns.refusals c.args.patterns.now))
    (seen_store (g.P.Patterns.added c.filled_shape.new.patterns) (g.P.Patterns.refused c.filled_shape.new.patterns)
    (g.P.Patterns.refusals c.filled_shape.new.patterns))
    c.args.words.model.now c.args.words.shape.now c.args.words.json_names true input c.in-Err-filled_shape.stop c.load_file.ensures.held
    (shape_loaded (files_seen (g.F.Files.held c.args.files.now) (g.F.Files.read_faults c.args.files.now)
    (g.F.Files.write_faults c.args.files.now))
    (files_seen (g.F.Files.held c.load_file.new.files) (g.F.Files.read_faults c.load_file.new.files)
    (g.F.Files.write_faults c.load_file.new.files))
    g.P.Patterns.test (seen_store (g.P.Patterns.added c.args.patterns.now) (g.P.Patterns.refused c.args.patterns.now)
    (g.P.Patterns.refusals c.args.patterns.now))
    (seen_store (g.P.Patterns.added c.filled_shape.new.patterns) (g.P.Patterns.refused c.filled_shape.new.patterns)
    (g.P.Patterns.refusals c.filled_shape.new.patterns))
    c.args.words.model.now c.args.words.shape.now
    c.in-Ok.model (seen_store (g.P.Patterns.added c.table_named.new.patterns) (g.P.Patterns.refused c.table_named.new.patterns)
    (g.P.Patterns.refusals c.table_named.new.patterns))
    c.in-Ok-table_named.made (Err c.in-Err-filled_shape.stop) c.in-Ok.ensures.loads c.in-Ok-table_named.ensures.makes
    c.filled_shape.ensures.refusals c.in-Err-filled_shape.ensures.fills)

use Rattle.sm_io.specs.Seen.{files_seen}
use Rattle.sm_compile.specs.Answers.{seen_store}
use Rattle.std.proofs.Common.{None, false}
use Rattle.sm_asked_shape.specs.asked.Stages.{told}
use Rattle.sm_schema_command.proofs.CompiledValues.{loaded_values}
use Rattle.sm_schema_command.proofs.Schemas.{says_schema, schema_prints, schema_short, schema_stops}
use Rattle.sm_schema_command.proofs.schema.plain_schema.Goals as goal

pub returns-in-Ok-schema_text-clause-comes : goal.returns-in-Ok-schema_text-clause-comes
returns-in-Ok-schema_text-clause-comes g c = λ input.
    schema_prints (files_seen (g.F.Files.held c.args.files.now) (g.F.Files.read_faults c.args.files.now)
    (g.F.Files.write_faults c.args.files.now))
    (files_seen (g.F.Files.held c.load_shape.new.files) (g.F.Files.read_faults c.load_shape.new.files)
    (g.F.Files.write_faults c.load_shape.new.files))
    g.P.Patterns.test
    (seen_store (g.P.Patterns.added c.args.patterns.now) (g.P.Patterns.refused c.args.patterns.now)
    (g.P.Patterns.refusals c.args.patterns.now))
    (seen_store (g.P.Patterns.added c.load_shape.new.patterns) (g.P.Patterns.refused c.load_shape.new.patterns)
    (g.P.Patterns.refusals c.load_shape.new.patterns))
    c.args.words.model.now c.args.words.shape.now c.args.words.json_names false input
    c.in-Ok-schema_text.text c.in-Ok.ensures.loads.0
    (says_schema (files_seen (g.F.Files.held c.args.files.now) (g.F.Files.read_faults c.args.files.now)
    (g.F.Files.write_faults c.args.files.now))
    (files_seen (g.F.Files.held c.load_shape.new.files) (g.F.Files.read_faults c.load_shape.new.files)
    (g.F.Files.write_faults c.load_shape.new.files))
    g.P.Patterns.test
    (seen_store (g.P.Patterns.added c.args.patterns.now) (g.P.Patterns.refused c.args.patterns.now)
    (g.P.Patterns.refusals c.args.patterns.now))
    (seen_store (g.P.Patterns.added c.load_shape.new.patterns) (g.P.Patterns.refused c.load_shape.new.patterns)
    (g.P.Patterns.refusals c.load_shape.new.patterns))
    c.args.words.model.now c.args.words.shape.now c.args.words.json_names input
    c.in-Ok.one c.in-Ok-schema_text.text.items (c.in-Ok.ensures.loads.1 input.bytes) c.in-Ok-schema_text.ensures)

pub returns-in-Ok-clause-comes : goal.returns-in-Ok-clause-comes
returns-in-Ok-clause-comes g c = λ input.
    schema_short (files_seen (g.F.Files.held c.args.files.now) (g.F.Files.read_faults c.args.files.now)
    (g.F.Files.write_faults c.args.files.now))
    (files_seen (g.F.Files.held c.load_shape.new.files) (g.F.Files.read_faults c.load_shape.new.files)
    (g.F.Files.write_faults c.load_shape.new.files))
    g.P.Patterns.test
    (seen_store (g.P.Patterns.added c.args.patterns.now) (g.P.Patterns.refused c.args.patterns.now)
    (g.P.Patterns.refusals c.args.patterns.now))
    (seen_store (g.P.Patterns.added c.load_shape.new.patterns) (g.P.Patterns.refused c.load_shape.new.patterns)
    (g.P.Patterns.refusals c.load_shape.new.patterns))
    c.args.words.model.now c.args.words.shape.now c.args.words.json_names false input
    c.in-Ok.ensures.loads.0

pub returns-clause-comes : goal.returns-clause-comes
returns-clause-comes g c = λ input.
    schema_stops (files_seen (g.F.Files.held c.args.files.now) (g.F.Files.read_faults c.args.files.now)
    (g.F.Files.write_faults c.args.files.now))
    (files_seen (g.F.Files.held c.load_shape.new.files) (g.F.Files.read_faults c.load_shape.new.files)
    (g.F.Files.write_faults c.load_shape.new.files))
    g.P.Patterns.test
    (seen_store (g.P.Patterns.added c.args.patterns.now) (g.P.Patterns.refused c.args.patterns.now)
    (g.P.Patterns.refusals c.args.patterns.now))
    (seen_store (g.P.Patterns.added c.load_shape.new.patterns) (g.P.Patterns.refused c.load_shape.new.patterns)
    (g.P.Patterns.refusals c.load_shape.new.patterns))
    c.args.words.model.now c.args.words.shape.now c.args.words.json_names false input
    c.in-Err.stop c.load_shape.ensures.held c.in-Err.ensures.loads

pub schema_text-requires-clause-values : goal.schema_text-requires-clause-values
schema_text-requires-clause-values g c =
    loaded_values
    (told (g.F.Files.held c.args.files.now) None g.P.Patterns.test
    (seen_store (g.P.Patterns.added c.args.patterns.now) (g.P.Patterns.refused c.args.patterns.now)
    (g.P.Patterns.refusals c.args.patterns.now)) None)
    c.args.words.model.now c.args.words.shape.now c.in-Ok.one (c.in-Ok.ensures.loads.1 None)

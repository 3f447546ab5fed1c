use Rattle.sm_io.specs.Seen.{files_seen, stream}
use Rattle.sm_compile.specs.Answers.{seen_store}
use Rattle.sm_body_command.proofs.Bodies.{body_by, body_stops}
use Rattle.sm_body_command.proofs.body.body.Goals as goal

pub far_input-requires : goal.far_input-requires
far_input-requires g c = record {
  number = c.in-Ok.ensures.readable.number;
  shaped = c.in-Ok.ensures.readable.shaped;
  stored = c.in-Ok.ensures.readable.stored;
  pass = c.in-Ok.ensures.readable.pass;
}

pub returns-in-Ok-clause-comes : goal.returns-in-Ok-clause-comes
returns-in-Ok-clause-comes g c =
    body_by (files_seen (g.F.Files.held c.args.files.now) (g.F.Files.read_faults c.args.files.now)
    (g.F.Files.write_faults c.args.files.now))
    (files_seen (g.F.Files.held c.load_shape.new.files) (g.F.Files.read_faults c.load_shape.new.files)
    (g.F.Files.write_faults c.load_shape.new.files))
    g.P.Patterns.test
    (seen_store (g.P.Patterns.added c.args.patterns.now) (g.P.Patterns.refused c.args.patterns.now)
    (g.P.Patterns.refusals c.args.patterns.now))
    (seen_store (g.P.Patterns.added c.far_input.new.patterns) (g.P.Patterns.refused c.far_input.new.patterns)
    (g.P.Patterns.refusals c.far_input.new.patterns))
    c.args.words.model.now c.args.words.shape.now c.args.words.near c.args.words.far
    (seen_store (g.P.Patterns.added c.load_shape.new.patterns) (g.P.Patterns.refused c.load_shape.new.patterns)
    (g.P.Patterns.refusals c.load_shape.new.patterns))
    (stream (g.S.Source.left c.args.input.now) (g.S.Source.faults c.args.input.now))
    (stream (g.S.Source.left c.far_input.new.input) (g.S.Source.faults c.far_input.new.input)) c.in-Ok.one c.far_input.result
    c.in-Ok.ensures.loads c.far_input.ensures.refusals c.far_input.ensures.comes

pub returns-in-Err-clause-comes : goal.returns-in-Err-clause-comes
returns-in-Err-clause-comes g c =
    body_stops (files_seen (g.F.Files.held c.args.files.now) (g.F.Files.read_faults c.args.files.now)
    (g.F.Files.write_faults c.args.files.now))
    (files_seen (g.F.Files.held c.load_shape.new.files) (g.F.Files.read_faults c.load_shape.new.files)
    (g.F.Files.write_faults c.load_shape.new.files))
    g.P.Patterns.test
    (seen_store (g.P.Patterns.added c.args.patterns.now) (g.P.Patterns.refused c.args.patterns.now)
    (g.P.Patterns.refusals c.args.patterns.now))
    (seen_store (g.P.Patterns.added c.load_shape.new.patterns) (g.P.Patterns.refused c.load_shape.new.patterns)
    (g.P.Patterns.refusals c.load_shape.new.patterns))
    c.args.words.model.now c.args.words.shape.now c.args.words.near c.args.words.far
    (stream (g.S.Source.left c.args.input.now) (g.S.Source.faults c.args.input.now)) c.in-Err.stop c.load_shape.ensures.held
    c.in-Err.ensures.loads

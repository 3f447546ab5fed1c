use Rattle.std.proofs.Common.{◌≡◌}
use Rattle.sm_io.specs.Seen.{files_seen, stream}
use Rattle.sm_compile.specs.Answers.{seen_store}
use Rattle.sm_model_commands.specs.asked.Outside.{Outside, inputs_seen}
use Rattle.sm_commands.specs.steps.FormSteps.{command_of}
use Rattle.sm_commands.proofs.Runs.{command_runs, naming_none, unnamed_kept}
use Rattle.sm_commands.proofs.command.run.Goals as goal

pub carry_out-requires : goal.carry_out-requires
carry_out-requires g c = record {
  formed = (c.args.words.now, c.in-Some.ensures);
  reads = λ name among. c.requires.reads (command_of c.in-Some.form) name c.in-Some.ensures among;
  writes = λ name among. c.requires.writes (command_of c.in-Some.form) name c.in-Some.ensures among;
}

pub returns-in-Some-clause-answers : goal.returns-in-Some-clause-answers
returns-in-Some-clause-answers g c =
    let before : Outside = record {
      inputs =
          inputs_seen (files_seen (g.F.Files.held c.args.files.now) (g.F.Files.read_faults c.args.files.now)
          (g.F.Files.write_faults c.args.files.now))
          (stream (g.S.Source.left c.args.input.now) (g.S.Source.faults c.args.input.now)) g.P.Patterns.test
          (seen_store (g.P.Patterns.added c.args.patterns.now) (g.P.Patterns.refused c.args.patterns.now)
          (g.P.Patterns.refusals c.args.patterns.now));
      output = stream (g.K.Sink.written c.args.out.now) (g.K.Sink.faults c.args.out.now);
    } in
    let after : Outside = record {
      inputs =
          inputs_seen (files_seen (g.F.Files.held c.carry_out.new.files) (g.F.Files.read_faults c.carry_out.new.files)
          (g.F.Files.write_faults c.carry_out.new.files))
          (stream (g.S.Source.left c.carry_out.new.input) (g.S.Source.faults c.carry_out.new.input)) g.P.Patterns.test
          (seen_store (g.P.Patterns.added c.carry_out.new.patterns) (g.P.Patterns.refused c.carry_out.new.patterns)
          (g.P.Patterns.refusals c.carry_out.new.patterns));
      output = stream (g.K.Sink.written c.carry_out.new.out) (g.K.Sink.faults c.carry_out.new.out);
    } in
    command_runs c.args.words.now before after (command_of c.in-Some.form) c.carry_out.result c.code.result c.in-Some.ensures
    c.carry_out.ensures.ends c.code.ensures

pub returns-in-Some-clause-files : goal.returns-in-Some-clause-files
returns-in-Some-clause-files g c =
    unnamed_kept c.args.words.now (g.F.Files.held c.args.files.now) (g.F.Files.held c.carry_out.new.files) (command_of c.in-Some.form)
    c.in-Some.ensures c.carry_out.ensures.files

pub returns-in-Some-clause-held : goal.returns-in-Some-clause-held
returns-in-Some-clause-held g c =
    naming_none c.args.words.now (command_of c.in-Some.form)
    (g.F.Files.held c.carry_out.new.files ≡ g.F.Files.held c.args.files.now) c.in-Some.ensures c.carry_out.ensures.held

pub returns-in-Some-clause-write_faults : goal.returns-in-Some-clause-write_faults
returns-in-Some-clause-write_faults g c =
    naming_none c.args.words.now (command_of c.in-Some.form)
    (g.F.Files.write_faults c.carry_out.new.files ≡ g.F.Files.write_faults c.args.files.now) c.in-Some.ensures
    c.carry_out.ensures.write_faults

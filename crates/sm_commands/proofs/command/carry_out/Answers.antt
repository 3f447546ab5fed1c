use Rattle.std.proofs.Common.{ℕ, List, [], ◌∷◌, arith, refl, subst, sym}
use Rattle.std.proofs.lemmas.List.Elements.{Contains-append_right}
use Rattle.std.specs.Prelude.{Contains}
use Rattle.sm_io.specs.Seen.{files_seen, stream}
use Rattle.sm_compile.specs.Answers.{seen_store}
use Rattle.sm_model_commands.specs.asked.Outside.{Outside, inputs_seen}
use Rattle.sm_cross_command.specs.asked_ends.AskedEnds.{AskedEnds}
use Rattle.sm_cross_command.proofs.asked_ends.WholeEnds.{whole_ends}
use Rattle.sm_cross_command.specs.CrossView.{cross_said}
use Rattle.sm_commands.specs.Commands.{IsCommandForm, asked_of}
use Rattle.sm_commands.specs.steps.CarrySteps.{KeepsUnnamed}
use Rattle.sm_commands.specs.steps.FormSteps.{command_of, whole_command}
use Rattle.sm_commands.proofs.Commanded.{puts_whole}
use Rattle.sm_commands.proofs.Runs.{files_kept, others_kept}
use Rattle.sm_commands.proofs.command.carry_out.Goals as goal

pub come_to-came-requires-clause-formed : goal.come_to-came-requires-clause-formed
come_to-came-requires-clause-formed g c =
    subst (λ f. (words : List (List ℕ)) × IsCommandForm words (command_of f)) c.in-Whole.is c.requires.formed

pub returns-in-Whole-clause-ends : goal.returns-in-Whole-clause-ends
returns-in-Whole-clause-ends g c =
    let before : Outside = record {
      inputs =
          inputs_seen (files_seen (g.F.Files.held c.args.files.now) (g.F.Files.read_faults c.args.files.now)
          (g.F.Files.write_faults c.args.files.now))
          (stream (g.S.Source.left c.args.input.now) (g.S.Source.faults c.args.input.now)) g.P.Patterns.test
          (seen_store (g.P.Patterns.added c.args.patterns.now) (g.P.Patterns.refused c.args.patterns.now)
          (g.P.Patterns.refusals c.args.patterns.now));
      output = stream (g.K.Sink.written c.args.out.now) (g.K.Sink.faults c.args.out.now);
    } in
    let after : Outside = record {
      inputs =
          inputs_seen (files_seen (g.F.Files.held c.come_to-came.new.files) (g.F.Files.read_faults c.come_to-came.new.files)
          (g.F.Files.write_faults c.come_to-came.new.files))
          (stream (g.S.Source.left c.come_to-came.new.input) (g.S.Source.faults c.come_to-came.new.input)) g.P.Patterns.test
          (seen_store (g.P.Patterns.added c.come_to-came.new.patterns) (g.P.Patterns.refused c.come_to-came.new.patterns)
          (g.P.Patterns.refusals c.come_to-came.new.patterns));
      output = stream (g.K.Sink.written c.print.new.out) (g.K.Sink.faults c.print.new.out);
    } in
    subst (λ f. AskedEnds before after (asked_of (command_of f)) c.print.result) (sym c.in-Whole.is)
    (whole_ends before after (asked_of (whole_command c.in-Whole.form)) (puts_whole c.in-Whole.form) c.come_to-came.ensures.held
    c.come_to-came.result c.print.result c.come_to-came.ensures.comes c.print.ensures.prints)

pub returns-in-Whole-clause-files : goal.returns-in-Whole-clause-files
returns-in-Whole-clause-files g c =
    files_kept (asked_of (command_of c.args.form)) (g.F.Files.held c.args.files.now) (g.F.Files.held c.come_to-came.new.files)
    c.come_to-came.ensures.held

pub cross-requires-clause-reads : goal.cross-requires-clause-reads
cross-requires-clause-reads g c =
    let w = cross_said c.in-Cross.words in
    let reads = subst (λ f. (name : List ℕ) → Contains (asked_of (command_of f)).reads name → g.F.Files.lets_read c.args.files.now name)
    c.in-Cross.is c.requires.reads in
    reads w.back_file (Contains-append_right w.models (w.back_file ∷ []) w.back_file (0, omega arith, refl))

pub returns-in-Cross-clause-files : goal.returns-in-Cross-clause-files
returns-in-Cross-clause-files g c =
    subst (λ f. KeepsUnnamed (asked_of (command_of f)) (g.F.Files.held c.args.files.now) (g.F.Files.held c.cross.new.files))
    (sym c.in-Cross.is)
    (others_kept (cross_said c.in-Cross.words) (g.F.Files.held c.args.files.now) (g.F.Files.held c.cross.new.files) c.cross.ensures.others)

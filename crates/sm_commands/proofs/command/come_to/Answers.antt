use Rattle.std.proofs.Common.{ℕ, List, subst, sym}
use Rattle.sm_io.specs.Seen.{files_seen, stream}
use Rattle.sm_compile.specs.Answers.{seen_store}
use Rattle.sm_model_commands.specs.asked.Comes.{CommandComesTo}
use Rattle.sm_model_commands.specs.asked.Outside.{inputs_seen}
use Rattle.sm_model_commands.proofs.asked.OverFiles.{files_come}
use Rattle.sm_model_commands.specs.Check.{CheckSays}
use Rattle.sm_model_commands.specs.Convert.{ConvertSays}
use Rattle.sm_model_commands.specs.Select.{SelectSays}
use Rattle.sm_model_commands.specs.Forms.{graph_form}
use Rattle.sm_transform_command.specs.Transform.{TransformSays}
use Rattle.sm_transform_command.specs.TransformForm.{change_asked}
use Rattle.sm_commands.specs.Commands.{IsCommandForm, asked_of}
use Rattle.sm_commands.specs.steps.FormSteps.{whole_command}
use Rattle.sm_commands.proofs.command.come_to.Goals as goal

pub returns-in-Check-clause-comes : goal.returns-in-Check-clause-comes
returns-in-Check-clause-comes g c =
    let files = files_seen (g.F.Files.held c.args.files.now) (g.F.Files.read_faults c.args.files.now)
    (g.F.Files.write_faults c.args.files.now) in
    let files1 = files_seen (g.F.Files.held c.check.new.files) (g.F.Files.read_faults c.check.new.files)
    (g.F.Files.write_faults c.check.new.files) in
    let input = stream (g.S.Source.left c.args.input.now) (g.S.Source.faults c.args.input.now) in
    let store = seen_store (g.P.Patterns.added c.args.patterns.now) (g.P.Patterns.refused c.args.patterns.now)
    (g.P.Patterns.refusals c.args.patterns.now) in
    let models = c.in-Check.words.models.now in
    subst (λ f. CommandComesTo (inputs_seen files input g.P.Patterns.test store) (inputs_seen files1 input g.P.Patterns.test store)
    (asked_of (whole_command f)) c.check.result)
    (sym c.in-Check.is)
    (files_come models (λ held a. CheckSays held models a) files files1 input g.P.Patterns.test store c.check.result
    c.check.ensures.held c.check.ensures.comes)

pub returns-in-Convert-clause-comes : goal.returns-in-Convert-clause-comes
returns-in-Convert-clause-comes g c =
    let files = files_seen (g.F.Files.held c.args.files.now) (g.F.Files.read_faults c.args.files.now)
    (g.F.Files.write_faults c.args.files.now) in
    let files1 = files_seen (g.F.Files.held c.convert.new.files) (g.F.Files.read_faults c.convert.new.files)
    (g.F.Files.write_faults c.convert.new.files) in
    let input = stream (g.S.Source.left c.args.input.now) (g.S.Source.faults c.args.input.now) in
    let store = seen_store (g.P.Patterns.added c.args.patterns.now) (g.P.Patterns.refused c.args.patterns.now)
    (g.P.Patterns.refusals c.args.patterns.now) in
    let models = c.in-Convert.words.models.now in
    subst (λ f. CommandComesTo (inputs_seen files input g.P.Patterns.test store) (inputs_seen files1 input g.P.Patterns.test store)
    (asked_of (whole_command f)) c.convert.result)
    (sym c.in-Convert.is)
    (files_come models (λ held a. ConvertSays held models (graph_form c.in-Convert.words.form) a) files files1
    input g.P.Patterns.test store c.convert.result
    c.convert.ensures.held c.convert.ensures.comes)

pub returns-in-Select-clause-comes : goal.returns-in-Select-clause-comes
returns-in-Select-clause-comes g c =
    let files = files_seen (g.F.Files.held c.args.files.now) (g.F.Files.read_faults c.args.files.now)
    (g.F.Files.write_faults c.args.files.now) in
    let files1 = files_seen (g.F.Files.held c.select.new.files) (g.F.Files.read_faults c.select.new.files)
    (g.F.Files.write_faults c.select.new.files) in
    let input = stream (g.S.Source.left c.args.input.now) (g.S.Source.faults c.args.input.now) in
    let store = seen_store (g.P.Patterns.added c.args.patterns.now) (g.P.Patterns.refused c.args.patterns.now)
    (g.P.Patterns.refusals c.args.patterns.now) in
    let models = c.in-Select.words.models.now in
    subst (λ f. CommandComesTo (inputs_seen files input g.P.Patterns.test store) (inputs_seen files1 input g.P.Patterns.test store)
    (asked_of (whole_command f)) c.select.result)
    (sym c.in-Select.is)
    (files_come models (λ held a. SelectSays held models c.in-Select.words.selector.now a) files files1
    input g.P.Patterns.test store c.select.result
    c.select.ensures.held c.select.ensures.comes)

pub returns-in-Schema-clause-comes : goal.returns-in-Schema-clause-comes
returns-in-Schema-clause-comes g c =
    let files = files_seen (g.F.Files.held c.args.files.now) (g.F.Files.read_faults c.args.files.now)
    (g.F.Files.write_faults c.args.files.now) in
    let files1 = files_seen (g.F.Files.held c.schema.new.files) (g.F.Files.read_faults c.schema.new.files)
    (g.F.Files.write_faults c.schema.new.files) in
    let input = stream (g.S.Source.left c.args.input.now) (g.S.Source.faults c.args.input.now) in
    let store = seen_store (g.P.Patterns.added c.args.patterns.now) (g.P.Patterns.refused c.args.patterns.now)
    (g.P.Patterns.refusals c.args.patterns.now) in
    let store1 = seen_store (g.P.Patterns.added c.schema.new.patterns) (g.P.Patterns.refused c.schema.new.patterns)
    (g.P.Patterns.refusals c.schema.new.patterns) in
    subst (λ f. CommandComesTo (inputs_seen files input g.P.Patterns.test store) (inputs_seen files1 input g.P.Patterns.test store1)
    (asked_of (whole_command f)) c.schema.result)
    (sym c.in-Schema.is) (c.schema.ensures.comes input)

pub returns-in-Transform-clause-comes : goal.returns-in-Transform-clause-comes
returns-in-Transform-clause-comes g c =
    let files = files_seen (g.F.Files.held c.args.files.now) (g.F.Files.read_faults c.args.files.now)
    (g.F.Files.write_faults c.args.files.now) in
    let files1 = files_seen (g.F.Files.held c.transform.new.files) (g.F.Files.read_faults c.transform.new.files)
    (g.F.Files.write_faults c.transform.new.files) in
    let input = stream (g.S.Source.left c.args.input.now) (g.S.Source.faults c.args.input.now) in
    let store = seen_store (g.P.Patterns.added c.args.patterns.now) (g.P.Patterns.refused c.args.patterns.now)
    (g.P.Patterns.refusals c.args.patterns.now) in
    let models = c.in-Transform.words.models.now in
    subst (λ f. CommandComesTo (inputs_seen files input g.P.Patterns.test store) (inputs_seen files1 input g.P.Patterns.test store)
    (asked_of (whole_command f)) c.transform.result)
    (sym c.in-Transform.is)
    (files_come models (λ held a. TransformSays held models (change_asked c.in-Transform.words.change) a) files files1
    input g.P.Patterns.test store c.transform.result
    c.transform.ensures.held c.transform.ensures.comes)

pub transform-requires-clause-named : goal.transform-requires-clause-named
transform-requires-clause-named g c =
    let formed = subst (λ f. (words : List (List ℕ)) × IsCommandForm words (whole_command f)) c.in-Transform.is c.requires.formed in
    formed.1.named

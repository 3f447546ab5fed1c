use Rattle.std.proofs.Common.{sym, subst}
use Rattle.sm_io.specs.Seen.{files_seen}
use Rattle.sm_compile.specs.Answers.{seen_store}
use Rattle.sm_asked_shape.specs.asked.Comes.{CommandComesTo}
use Rattle.sm_asked_shape.specs.asked.Outside.{inputs_seen}
use Rattle.sm_schema_command.specs.Schema.{schema_asked}
use Rattle.sm_schema_command.proofs.schema.schema.Goals as goal

pub returns-then-words-clause-comes : goal.returns-then-words-clause-comes
returns-then-words-clause-comes g c = λ input.
    subst (λ b. CommandComesTo
    (inputs_seen (files_seen (g.F.Files.held c.args.files.now) (g.F.Files.read_faults c.args.files.now)
    (g.F.Files.write_faults c.args.files.now)) input g.P.Patterns.test
    (seen_store (g.P.Patterns.added c.args.patterns.now) (g.P.Patterns.refused c.args.patterns.now)
    (g.P.Patterns.refusals c.args.patterns.now)))
    (inputs_seen (files_seen (g.F.Files.held c.described_schema.new.files) (g.F.Files.read_faults c.described_schema.new.files)
    (g.F.Files.write_faults c.described_schema.new.files)) input g.P.Patterns.test
    (seen_store (g.P.Patterns.added c.described_schema.new.patterns) (g.P.Patterns.refused c.described_schema.new.patterns)
    (g.P.Patterns.refusals c.described_schema.new.patterns)))
    (schema_asked c.args.words.model.now c.args.words.shape.now c.args.words.json_names b) c.described_schema.result)
    (sym c.if-words.true) (c.described_schema.ensures.comes input)

pub returns-else-words-clause-comes : goal.returns-else-words-clause-comes
returns-else-words-clause-comes g c = λ input.
    subst (λ b. CommandComesTo
    (inputs_seen (files_seen (g.F.Files.held c.args.files.now) (g.F.Files.read_faults c.args.files.now)
    (g.F.Files.write_faults c.args.files.now)) input g.P.Patterns.test
    (seen_store (g.P.Patterns.added c.args.patterns.now) (g.P.Patterns.refused c.args.patterns.now)
    (g.P.Patterns.refusals c.args.patterns.now)))
    (inputs_seen (files_seen (g.F.Files.held c.plain_schema.new.files) (g.F.Files.read_faults c.plain_schema.new.files)
    (g.F.Files.write_faults c.plain_schema.new.files)) input g.P.Patterns.test
    (seen_store (g.P.Patterns.added c.plain_schema.new.patterns) (g.P.Patterns.refused c.plain_schema.new.patterns)
    (g.P.Patterns.refusals c.plain_schema.new.patterns)))
    (schema_asked c.args.words.model.now c.args.words.shape.now c.args.words.json_names b) c.plain_schema.result)
    (sym c.if-words.false) (c.plain_schema.ensures.comes input)

use Rattle.sm_select.proofs.Boundaries.{dark_now}
use Rattle.sm_select.proofs.ReadNames.{name_read, name_refused}
use Rattle.sm_select.proofs.parser_names.relation.Goals as goal

pub returns-in-Some-clause-read : goal.returns-in-Some-clause-read
returns-in-Some-clause-read c ss fs ns =
    name_read ss fs ns c.args.reading.now.rest.now c.word-word.result.now c.pass_word.new.self.rest.now c.in-Some.relation
    c.word-word.ensures
    c.in-Some.ensures c.pass_word.ensures.rest (dark_now c.pass_word.new.self.rest.now c.pass_word.new.self.dark)

pub returns-in-None-clause-read : goal.returns-in-None-clause-read
returns-in-None-clause-read c ss fs ns =
    name_refused c.args.reading.now.len ss fs ns c.args.reading.now.rest.now c.word-word.result.now c.refused.result c.word-word.ensures
    c.in-None.ensures (dark_now c.args.reading.now.rest.now c.args.reading.now.dark) c.refused.ensures

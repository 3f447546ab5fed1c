use Rattle.sm_select.specs.steps.Places.{behind_fold, behind_value}
use Rattle.sm_select.specs.steps.Reader.{behind_a_value}
use Rattle.sm_select.proofs.Boundaries.{dark_now}
use Rattle.sm_select.proofs.ReadPaths.{behind_value_refused, fold_read}
use Rattle.sm_select.proofs.Stopped.{read_behind}
use Rattle.sm_select.proofs.parser_attribute.folded.Goals as goal

pub returns-in-i-clause-read : goal.returns-in-i-clause-read
returns-in-i-clause-read c ss fs path op vs =
    let s = c.args.reading.now.rest.now in
    let r = c.pass_word.new.self.rest.now in
    read_behind c.args.reading.now.len c.pass_word.new.self.len (behind_value ss fs path op vs) (behind_fold ss fs path op vs) s r
    c.fold_end.new.reading.rest.now (behind_a_value ss fs path op vs) c.fold_end.result c.pass_word.ensures.len
    (fold_read ss fs path op vs s c.word-word.result.now r c.requires c.word-word.ensures c.in-i.is c.pass_word.ensures.rest
    (dark_now r c.pass_word.new.self.dark))
    (c.fold_end.ensures.read ss fs path op vs)

pub returns-in_default-clause-read : goal.returns-in_default-clause-read
returns-in_default-clause-read c ss fs path op vs =
    behind_value_refused c.args.reading.now.len ss fs path op vs c.args.reading.now.rest.now c.word-word.result.now c.refused.result
    c.requires
    c.word-word.ensures c.in_default.not-i (dark_now c.args.reading.now.rest.now c.args.reading.now.dark) c.refused.ensures

use Rattle.sm_idl.specs.steps.ReaderView.{left}
use Rattle.std.proofs.Common.{map, sym, subst}
use Rattle.sm_lex.specs.Tokens.{lexeme_of}
use Rattle.sm_model.specs.RawView.{raw_members_view}
use Rattle.sm_model.specs.SaidView.{statements_view}
use Rattle.sm_idl.proofs.NodeRows.{refused}
use Rattle.sm_idl.specs.Idl.{HaveVersion}
use Rattle.sm_idl.proofs.Stopped.{answer_said, answer_version, answer_stop}
use Rattle.sm_idl.proofs.read.statements_of.Goals as goal

pub returns-in-Err : goal.returns-in-Err
returns-in-Err c =
    answer_stop c.args.text.now (map lexeme_of c.args.tokens.now) (left c.new-reader.result) c.requires.spell c.new-reader.ensures
    (left c.file.new.self) c.in-Err.stop c.stopped.result c.in-Err.ensures c.stopped.ensures

pub returns-then-has_version : goal.returns-then-has_version
returns-then-has_version c =
    answer_said c.args.text.now (map lexeme_of c.args.tokens.now) (left c.new-reader.result) c.requires.spell c.new-reader.ensures
    c.in-Ok.ensures.0 (raw_members_view c.in-Ok.file.controls.items) (statements_view c.in-Ok.file.statements.items) c.in-Ok.ensures.1
    c.in-Ok.ensures.2 (subst (λ l. HaveVersion (raw_members_view l)) c.as_slice.ensures.value
    (c.has_version.ensures.0 c.if-has_version.true)) c.in-Ok.ensures.3

pub returns : goal.returns
returns c =
    answer_version c.args.text.now (map lexeme_of c.args.tokens.now) (left c.new-reader.result) c.requires.spell c.new-reader.ensures
    c.in-Ok.ensures.0 (raw_members_view c.in-Ok.file.controls.items) c.in-Ok.ensures.1
    (λ h. refused c.has_version.result (HaveVersion (raw_members_view c.as_slice.result.now)) c.has_version.ensures
    c.if-has_version.false (subst (λ l. HaveVersion (raw_members_view l)) (sym c.as_slice.ensures.value) h)) c.in-Ok.ensures.3

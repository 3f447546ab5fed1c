use Rattle.std.proofs.Common.{sym, subst, ◌∙◌}
use Rattle.sm_ids.specs.IdText.{IsIdText}
use Rattle.sm_idl.specs.Nodes.{pair_names}
use Rattle.sm_idl.specs.steps.FieldSteps.{IsIdKey}
use Rattle.sm_idl.proofs.OneSaying.{one_key}
use Rattle.sm_idl.proofs.UsedWords.{not_id}
use Rattle.sm_idl.proofs.Choosing.{token_stuck}
use Rattle.sm_lex.specs.Tokens.{lexeme_of}
use Rattle.sm_idl.proofs.reader.Reader.id_key.Goals as goal

pub returns-then-new-clause-seen : goal.returns-then-new-clause-seen
returns-then-new-clause-seen c = λ before h.
    (c.in-Ok-is_new_text.ensures (pair_names before) h).1

pub returns-in-Err-parse-clause-reads : goal.returns-in-Err-parse-clause-reads
returns-in-Err-parse-clause-reads c = λ before h.
    let is_key = rw c.in-Ok-Some.field-0-is at c.in-Ok-Some.ensures in
    token_stuck (IsIdKey before) _ _ _ c.in-Some.ensures.2 (λ k m. not_id c.as_str.result.now c.in-Err-parse.field-0
    c.in-Err-parse.ensures (subst IsIdText (one_key (lexeme_of c.in-Some.token) k c.in-Ok-Some.text m.0 is_key
    ∙ sym c.as_str.ensures.bytes) m.1))

pub returns-in-Ok-None-clause-reads : goal.returns-in-Ok-None-clause-reads
returns-in-Ok-None-clause-reads c = λ before h.
    let none = rw c.in-Ok-None.field-0-is at c.in-Ok-None.ensures in
    token_stuck (IsIdKey before) _ _ _ c.in-Some.ensures.2 (λ k m. none k m.0)

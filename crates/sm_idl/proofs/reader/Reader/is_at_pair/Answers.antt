use Rattle.std.proofs.Common.{sym, subst, codes}
use Rattle.sm_lex.specs.Tokens.{lexeme_of}
use Rattle.sm_idl.specs.Productions.{Spaced}
use Rattle.sm_idl.specs.steps.Firm.{HeadIs}
use Rattle.sm_idl.specs.steps.Classes.{AMark, PairAhead}
use Rattle.sm_idl.specs.steps.ReaderView.{left}
use Rattle.sm_idl.proofs.NodeRows.{refused}
use Rattle.sm_idl.proofs.PairsAhead.{word_before_colon, word_pair, text_pair, at_tokens}
use Rattle.sm_idl.proofs.reader.Reader.is_at_pair.Goals as goal

pub returns-then-is_before_colon : goal.returns-then-is_before_colon
returns-then-is_before_colon c = λ home.
    let x : Spaced = record { space = c.in-Some.ensures.0; token = lexeme_of c.in-Some.token } in
    let r = c.in-Some.ensures.1 in (
      (λ _. subst (λ z. PairAhead home z) (sym c.in-Some.ensures.2)
          (word_before_colon home x r c.in-Word.is ((c.is_before_colon.ensures x r c.in-Some.ensures.2).0 c.if-is_before_colon.true))),
      (λ _. c.if-is_before_colon.true),
    )

pub returns-else-is_before_colon : goal.returns-else-is_before_colon
returns-else-is_before_colon c = λ home.
    let x : Spaced = record { space = c.in-Some.ensures.0; token = lexeme_of c.in-Some.token } in
    let r = c.in-Some.ensures.1 in
    at_tokens home (left c.args.self.now) x r _ c.in-Some.ensures.2
    (word_pair home x r c.in-Word.is (refused c.is_before_colon.result (HeadIs (AMark (codes ":")) r)
    (c.is_before_colon.ensures x r c.in-Some.ensures.2) c.if-is_before_colon.false) c.is_node_word.result (c.is_node_word.ensures home))

pub returns-in-Text : goal.returns-in-Text
returns-in-Text c = λ home.
    let x : Spaced = record { space = c.in-Some.ensures.0; token = lexeme_of c.in-Some.token } in
    let r = c.in-Some.ensures.1 in
    at_tokens home (left c.args.self.now) x r _ c.in-Some.ensures.2
    (text_pair home x r c.in-Text.is (c.in-Some.token.string c.in-Text.is).value c.is_before_colon-in-Text.result
    (c.is_before_colon-in-Text.ensures x r c.in-Some.ensures.2))

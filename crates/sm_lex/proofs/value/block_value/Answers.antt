use Rattle.std.proofs.Common.{◌≡◌, subst, sym, ap, ◌∙◌, drop}
use Rattle.std.specs.Prelude.{IsOk, IfOk, Ok, Some, map, string_bytes}
use Rattle.sm_lex.specs.Lines.{line_end_len, lines_text}
use Rattle.sm_lex.specs.Values.{block_value}
use Rattle.sm_lex.specs.steps.LexSteps.{lines_left, line_kept}
use Rattle.sm_lex.proofs.Lengths.{whole_rest}
use Rattle.sm_lex.proofs.Insides.{block_read}
use Rattle.sm_lex.proofs.value.block_value.Goals as goal
use Rattle.sm_lex.proofs.value.block_value.Goals.{After-indent_of}

-- the lines that are read are the token's
read : (c : After-indent_of)
    → lines_text (map (line_kept (Some c.indent_of.result)) (lines_left c.new-lines.result)) ≡ block_value c.args.token.now.start
    c.args.token.now.text.now
read c =
    let token = c.args.token.now in
    let line_end = c.line_end_len-line_end.ensures
    ∙ ap line_end_len (whole_rest c.as_bytes.result.now 3 ∙ ap (drop 3) c.as_bytes.ensures.value) in
    block_read token.start c.line_end_len-line_end.result c.indent_of.result token.text.now c.block_inside-inside.result.now
    (lines_left c.new-lines.result) c.new-lines.ensures line_end c.block_inside-inside.ensures c.indent_of.ensures

pub lines_value-requires : goal.lines_value-requires
lines_value-requires c = subst (λ v. IsOk v) (sym (read (goal.at.lines_value-requires c).After-indent_of))
    (c.args.token.now.block c.requires).value

pub returns : goal.returns
returns c = subst (λ v. IfOk c.lines_value.result (λ text. v ≡ Ok (string_bytes text))) (read (goal.at.returns c).After-indent_of)
    c.lines_value.ensures

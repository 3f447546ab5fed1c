use Rattle.std.proofs.Common.{◌+◌, false, inl, subst, sym, ◌∙◌, ap}
use Rattle.std.specs.Prelude.{None, IsOk, map}
use Rattle.sm_lex.specs.Lines.{lines_text}
use Rattle.sm_lex.specs.Tokens.{first_end, one_quote}
use Rattle.sm_lex.specs.steps.LexSteps.{line_kept}
use Rattle.sm_lex.proofs.Strings.{IsString, behind_quote, string_cut, is_string, string_judged, string_len_is}
use Rattle.sm_lex.proofs.lex.string.Goals as goal
use Rattle.sm_lex.proofs.lex.string.Goals.{After-split_at-2}

-- what was cut out is the string
the_string : (c : After-split_at-2) → IsString c.args.text.now c.split_at.result.1.now c.split_at-2.result.0.now c.in-Some.len
the_string c = record {
  opens = c.requires.opens;
  behind_is = c.split_at.ensures.back;
  closes = c.in-Some.ensures ∙ ap (first_end one_quote false) c.as_bytes.ensures.value;
  inside_is = c.split_at-2.ensures.front;
}

pub split_at-requires : goal.split_at-requires
split_at-requires c = behind_quote c.args.text.now c.utf8.text c.requires.opens.first

pub split_at-requires-2 : goal.split_at-requires-2
split_at-requires-2 c = string_cut c.split_at.result.1.now c.in-Some.len (c.in-Some.ensures
    ∙ ap (first_end one_quote false) c.as_bytes.ensures.value)

pub returns-in-Some-bad_escape : goal.returns-in-Some-bad_escape
returns-in-Some-bad_escape c =
    let it = the_string (goal.at.returns-in-Some-bad_escape c).After-split_at-2 in
    let judged = ap (λ ls. lines_text (map (line_kept None) ls)) (sym c.new.ensures) ∙ c.in-Some-bad_escape.ensures in
    (c.in-Some.len + 2, inl (c.requires.opens, string_len_is it, sym (string_judged it c.args.start) ∙ judged))

pub returns-in-None : goal.returns-in-None
returns-in-None c =
    let it = the_string (goal.at.returns-in-None c).After-split_at-2 in
    is_string it c.args.start c.utf8.text (subst (λ ls. IsOk (lines_text (map (line_kept None) ls))) c.new.ensures c.in-None.ensures)

use Rattle.std.proofs.Common.{Some, None, sym, lit<, ◌∙◌}
use Rattle.std.proofs.lemmas.Str.Pattern.{strip_prefix_char}
use Rattle.sm_select.proofs.Boundaries.{word_boundary}
use Rattle.sm_select.proofs.TakenWords.{longer_boundary, longer_found, no_dollar_behind, some_text}
use Rattle.sm_select.proofs.parser_taken.longer_word.Goals as goal

pub split_at-requires : goal.split_at-requires
split_at-requires c = word_boundary c.args.rest.now c.args.run.now c.requires c.utf8.rest

pub split_at-requires-in-Some : goal.split_at-requires-in-Some
split_at-requires-in-Some c =
    let rest = sym c.split_at.ensures.back ∙ strip_prefix_char 36 c.split_at.result.1.now (Some c.in-Some.more) c.in-Some.ensures.cases
    (lit< tt) in
    longer_boundary c.args.rest.now c.args.run.now c.in-Some.more.now c.run_at-member.result.now c.requires rest c.run_at-member.ensures
    (some_text c.run_at-member.result.now c.is_empty.result c.is_empty.ensures c.if-is_empty.false) c.utf8.rest

pub returns-else-is_empty : goal.returns-else-is_empty
returns-else-is_empty c =
    let rest = sym c.split_at.ensures.back ∙ strip_prefix_char 36 c.split_at.result.1.now (Some c.in-Some.more) c.in-Some.ensures.cases
    (lit< tt) in
    longer_found c.args.rest.now c.args.run.now c.in-Some.more.now c.run_at-member.result.now c.requires rest c.run_at-member.ensures
    (some_text c.run_at-member.result.now c.is_empty.result c.is_empty.ensures c.if-is_empty.false) c.split_at-in-Some.result.0.now
    c.split_at-in-Some.result.1.now c.split_at-in-Some.ensures.front c.split_at-in-Some.ensures.back

pub returns-in-None : goal.returns-in-None
returns-in-None c =
    no_dollar_behind c.args.rest.now c.args.run.now
    (λ more e. strip_prefix_char 36 c.split_at.result.1.now None c.in-None.ensures.cases (lit< tt) more (c.split_at.ensures.back ∙ e))

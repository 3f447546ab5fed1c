use Rattle.std.proofs.Common.{◌≡◌, drop, sym, ap, subst, ◌∙◌}
use Rattle.std.specs.List.{prefix_len}
use Rattle.std.specs.Str.{IsCharBoundary}
use Rattle.std.specs.Prelude.{false}
use Rattle.sm_select.specs.Tokens.{SkipsWhite, is_selector_white}
use Rattle.sm_select.specs.steps.Reader.{begins_white}
use Rattle.sm_select.proofs.Boundaries.{dark_test, white_boundary, white_prefix}
use Rattle.sm_select.proofs.parser_text.without_white.Goals as goal

pub split_at-requires : goal.split_at-requires
split_at-requires c =
    let e : c.run_len.result ≡ prefix_len is_selector_white c.args.text.now =
    c.run_len.ensures.run ∙ ap (prefix_len is_selector_white) c.as_bytes.ensures.value in
    subst (IsCharBoundary c.args.text.now) (sym e) (white_boundary c.args.text.now c.utf8.text)

pub returns-clause-white : goal.returns-clause-white
returns-clause-white c =
    let e : c.run_len.result ≡ prefix_len is_selector_white c.args.text.now =
    c.run_len.ensures.run ∙ ap (prefix_len is_selector_white) c.as_bytes.ensures.value in
    subst (SkipsWhite c.args.text.now) (sym (c.split_at.ensures.back ∙ ap (λ n. drop n c.args.text.now) e)) (white_prefix c.args.text.now)

pub returns-clause-dark : goal.returns-clause-dark
returns-clause-dark c =
    let e : c.run_len.result ≡ prefix_len is_selector_white c.args.text.now =
    c.run_len.ensures.run ∙ ap (prefix_len is_selector_white) c.as_bytes.ensures.value in
    subst (λ t. begins_white t ≡ false) (sym (c.split_at.ensures.back ∙ ap (λ n. drop n c.args.text.now) e)) (dark_test c.args.text.now)

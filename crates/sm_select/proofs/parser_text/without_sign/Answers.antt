use Rattle.std.proofs.Common.{drop, length, sym, ap, subst, ◌∙◌}
use Rattle.std.specs.Str.{IsCharBoundary}
use Rattle.sm_select.specs.Tokens.{SkipsWhite}
use Rattle.sm_select.proofs.SignBoundaries.{sign_boundary}
use Rattle.sm_select.proofs.parser_text.without_sign.Goals as goal

pub split_at-requires : goal.split_at-requires
split_at-requires c = subst (λ t. IsCharBoundary c.args.rest.now (length t)) (sym c.text.ensures)
    (sign_boundary c.args.sign c.args.rest.now c.requires c.utf8.rest)

pub returns-clause-white : goal.returns-clause-white
returns-clause-white c = subst (λ t. SkipsWhite t c.without_white.result.now)
    (c.split_at.ensures.back ∙ ap (λ t. drop (length t) c.args.rest.now) c.text.ensures) c.without_white.ensures.white

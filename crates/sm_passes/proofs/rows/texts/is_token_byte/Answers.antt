use Rattle.std.proofs.Common.{◌∙◌}
use Rattle.std.specs.Prelude.{◌||◌}
use Rattle.sm_passes.proofs.RowTested.{token_byte}
use Rattle.sm_passes.proofs.rows.texts.is_token_byte.Goals as goal

pub returns : goal.returns
returns c =
    token_byte c.args.byte c.either.result
    (c.either.ensures ∙ (λ i. c.is_ascii_alphanumeric-letter.ensures.value i || c.is_token_sign-sign.ensures i))

use Rattle.std.proofs.Common.{sym, ap, ◌∙◌}
use Rattle.sm_parts.specs.Texts.{is_decimal}
use Rattle.sm_parts.proofs.TextForms.{decimal_is_long}
use Rattle.sm_parts.proofs.texts.read_decimal.Goals as goal

pub returns-in-Err : goal.returns-in-Err
returns-in-Err c =
    decimal_is_long c.args.bits c.args.text.now
    (ap is_decimal (sym c.as_bytes.ensures.value) ∙ sym c.is_decimal.ensures ∙ c.if-not-is_decimal.false) c.in-Err.ensures.value.0

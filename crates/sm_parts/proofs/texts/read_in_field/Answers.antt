use Rattle.std.proofs.Common.{sym, ◌∙◌}
use Rattle.sm_parts.proofs.TextForms.{field_utf8}
use Rattle.sm_parts.proofs.texts.read_in_field.Goals as goal

pub unreachable-requires : goal.unreachable-requires
unreachable-requires c =
    c.in-Err.ensures.cases.0 (field_utf8 c.args.bytes.now (sym c.are_field_bytes.ensures ∙ c.if-not-are_field_bytes.false))

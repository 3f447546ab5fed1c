use Rattle.std.proofs.Common.{sym, ap, ◌∙◌}
use Rattle.sm_time.specs.StampTexts.{stamp_of}
use Rattle.sm_codec.proofs.PlainLeaves.{none_is_told, read_is_told}
use Rattle.sm_parts.proofs.texts.stamp_in.Goals as goal

pub returns-in-Ok : goal.returns-in-Ok
returns-in-Ok c =
    sym (ap (stamp_of c.args.format) (sym c.as_bytes.ensures.value)
    ∙ read_is_told c.args.format c.as_bytes.result.now c.in-Ok.stamp c.in-Ok.ensures)

pub returns-in-Err : goal.returns-in-Err
returns-in-Err c =
    sym (ap (stamp_of c.args.format) (sym c.as_bytes.ensures.value)
    ∙ none_is_told c.args.format c.as_bytes.result.now c.in-Err.field-0 c.in-Err.ensures)

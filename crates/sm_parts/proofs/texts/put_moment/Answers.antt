use Rattle.std.proofs.Common.{sym, subst}
use Rattle.std.specs.Prelude.{IsUtf8}
use Rattle.sm_time.proofs.AsciiTexts.{written_utf8}
use Rattle.sm_parts.proofs.texts.put_moment.Goals as goal

pub unreachable-requires-in-Err-from_utf8 : goal.unreachable-requires-in-Err-from_utf8
unreachable-requires-in-Err-from_utf8 c =
    c.in-Err-from_utf8.ensures.cases.0 (subst IsUtf8 (sym c.in-Ok.ensures.3)
    (written_utf8 c.args.format c.args.stamp c.milliseconds-moment.ensures.in_range c.in-Ok.ensures.0))

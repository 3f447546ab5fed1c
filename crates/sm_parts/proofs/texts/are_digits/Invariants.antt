use Rattle.std.proofs.Common.{◌≡◌, drop}
use Rattle.sm_time.specs.StampTexts.{are_digits}
use Rattle.sm_parts.proofs.texts.are_digits.Given as goal

abbrev pub invariant-loop-digit : goal.invariant-loop-digit
invariant-loop-digit l = are_digits (drop l.digit-index l.digits) ≡ are_digits l.digits

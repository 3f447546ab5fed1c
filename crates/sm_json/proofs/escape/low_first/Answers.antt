-- Only 0xD begins a low surrogate.
use Rattle.std.proofs.Common.{arith}
use Rattle.sm_json.specs.declared.spot.UnitDigits.TheVariants.{Second}
use Rattle.sm_json.proofs.Escapes.{low_refused}
use Rattle.sm_json.proofs.escape.low_first.Goals as goal

pub returns-else-digit-eq13 : goal.returns-else-digit-eq13
returns-else-digit-eq13 c = low_refused c.args.high (Second c.args.digit) (λ begun. omega arith)

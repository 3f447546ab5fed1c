-- A code unit is a high surrogate.
use Rattle.std.proofs.Common.{arith}
use Rattle.sm_json.proofs.Units.{end_high}
use Rattle.sm_json.proofs.escape.whole_unit.Goals as goal

pub returns-then-unit-lt56320 : goal.returns-then-unit-lt56320
returns-then-unit-lt56320 c = end_high c.args.unit (omega arith, omega arith)

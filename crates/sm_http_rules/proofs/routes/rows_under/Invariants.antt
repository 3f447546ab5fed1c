use Rattle.std.proofs.Common.{take}
use Rattle.sm_http_rules.specs.steps.SameRoutes.{AreUnder}
use Rattle.sm_http_rules.proofs.routes.rows_under.Given as goal

abbrev pub invariant-loop-number : goal.invariant-loop-number
invariant-loop-number l = AreUnder l.firsts (take l.number-index l.numbers) l.rows.items

use Rattle.std.proofs.Common.{◌-◌, length}
use Rattle.sm_routes.proofs.Scanned.{NoneBefore}
use Rattle.sm_routes.proofs.finding.first_match.Given as goal

abbrev pub invariant-rows : goal.invariant-rows
invariant-rows l = NoneBefore l.method l.target l.rows l.at

abbrev pub decreases-rows : goal.decreases-rows
decreases-rows l = length l.rows - l.at

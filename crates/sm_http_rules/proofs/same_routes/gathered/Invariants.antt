use Rattle.std.proofs.Common.{length, ◌-◌, ◌≡◌, ◌≤◌}
use Rattle.sm_http_rules.specs.steps.SameRoutes.{AreGathered}
use Rattle.sm_http_rules.proofs.same_routes.gathered.Given as goal

abbrev pub decreases-loop-begin : goal.decreases-loop-begin
decreases-loop-begin l = length l.rows - l.begin

abbrev pub invariant-loop-begin : goal.invariant-loop-begin
invariant-loop-begin l = record {
  within : l.begin ≤ length l.rows;
  whole : length l.firsts.items ≡ length l.fn.firsts.items;
  firsts : AreGathered l.rows l.begin l.firsts.items;
}

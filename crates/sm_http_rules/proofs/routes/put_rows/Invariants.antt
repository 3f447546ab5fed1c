use Rattle.std.proofs.Common.{length, take, ◌≤◌}
use Rattle.sm_rules.specs.RuleEvents.{Puts}
use Rattle.sm_http_rules.specs.steps.SameRoutes.{IsRunFrom, ToldOfRows}
use Rattle.sm_http_rules.proofs.routes.put_rows.Given as goal

abbrev pub invariant-loop-place : goal.invariant-loop-place
invariant-loop-place l = record {
  within : l.place ≤ length l.rows;
  run : IsRunFrom l.rows l.begin l.place;
  told : Puts (ToldOfRows l.graph (take l.place l.rows)) l.fn.events.items l.events.items;
}

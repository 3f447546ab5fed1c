use Rattle.std.proofs.Common.{length, take, ◌≡◌}
use Rattle.std.specs.Map.{values_of}
use Rattle.sm_http_rules.specs.steps.SameRoutes.{IsPutUnder}
use Rattle.sm_http_rules.proofs.same_routes.put_under.Given as goal

abbrev pub invariant-loop-row : goal.invariant-loop-row
invariant-loop-row l = record {
  whole : length l.firsts.items ≡ length l.initial.firsts.items;
  put : IsPutUnder l.first (values_of (take l.row-index l.rows)) l.initial.firsts.items l.firsts.items;
}

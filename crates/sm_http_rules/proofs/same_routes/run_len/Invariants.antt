use Rattle.std.proofs.Common.{length, take, ◌<◌, ◌≡◌, ◌≤◌}
use Rattle.std.specs.List.{All}
use Rattle.sm_http_rules.proofs.same_routes.run_len.Given as goal

abbrev pub invariant-loop-place : goal.invariant-loop-place
invariant-loop-place l = record {
  some : 0 < l.place;
  within : l.place ≤ length l.rows;
  same : All (λ r. r.0 ≡ l.first.0) (take l.place l.rows);
}

use Rattle.std.proofs.Common.{None, replicate, ◌≡◌}
use Rattle.sm_http_rules.proofs.same_routes.no_numbers.Given as goal

abbrev pub invariant-loop : goal.invariant-loop
invariant-loop l = l.firsts.items ≡ replicate l.counter None

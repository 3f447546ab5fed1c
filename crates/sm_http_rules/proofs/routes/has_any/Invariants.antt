use Rattle.std.proofs.Common.{None, get_or, take, ℕ, ◌≡◌}
use Rattle.sm_http_rules.proofs.routes.has_any.Given as goal

abbrev pub invariant-loop-first : goal.invariant-loop-first
invariant-loop-first l = (k : ℕ) → get_or (take l.first-index l.firsts) k None ≡ None

use Rattle.std.proofs.Common.{◌≡◌, [], replicate}
use Rattle.sm_trait_rules.proofs.uses.no_uses.Given as goal

abbrev pub invariant-loop : goal.invariant-loop
invariant-loop l = l.rows.items ≡ replicate l.counter []

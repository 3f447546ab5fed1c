use Rattle.std.proofs.Common.{◌≡◌, ◌<◌, None, ℕ}
use Rattle.sm_name_rules.specs.steps.NameTwins.{earlier_in}
use Rattle.sm_name_rules.proofs.earlier.are_apart.Given as goal

abbrev pub invariant-loop-first : goal.invariant-loop-first
invariant-loop-first l = (k : ℕ) → k < l.first-index → earlier_in l.earlier k ≡ None

use Rattle.std.proofs.Common.{◌≡◌}
use Rattle.sm_passes.specs.Folded.{folded_below}
use Rattle.sm_name_rules.proofs.case.folded_ids.Given as goal

abbrev pub invariant-loop-number : goal.invariant-loop-number
invariant-loop-number l = l.rows.items ≡ folded_below l.graph l.number

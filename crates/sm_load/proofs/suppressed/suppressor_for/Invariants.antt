use Rattle.std.proofs.Common.{◌≡◌, take}
use Rattle.std.specs.List.{Contains}
use Rattle.sm_rules.specs.RuleList.{rule_id}
use Rattle.sm_load.specs.declared.suppressed.Suppressor.{Suppressor}
use Rattle.sm_load.proofs.suppressed.suppressor_for.Given as goal

abbrev pub invariant-loop-suppressor : goal.invariant-loop-suppressor
invariant-loop-suppressor l =
    (s : Suppressor) → Contains (take l.suppressor-index l.suppressors) s → rule_id s.rule ≡ l.event → ⊥

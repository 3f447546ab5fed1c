use Rattle.std.proofs.Common.{take}
use Rattle.sm_value_rules.specs.steps.Checking.{AreOfValues}
use Rattle.sm_value_rules.proofs.checked.links_of_values.Given as goal

abbrev pub invariant-loop-link : goal.invariant-loop-link
invariant-loop-link l = AreOfValues (take l.link-index l.all) l.links.items

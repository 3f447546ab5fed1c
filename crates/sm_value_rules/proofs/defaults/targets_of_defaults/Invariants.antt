use Rattle.sm_value_rules.specs.steps.Defaulting.{WantsTarget}
use Rattle.sm_value_rules.specs.steps.Nodes.{AreRoots}
use Rattle.sm_value_rules.proofs.defaults.targets_of_defaults.Given as goal

abbrev pub invariant-loop-number : goal.invariant-loop-number
invariant-loop-number l = AreRoots l.graph (WantsTarget l.graph) l.number l.roots.items

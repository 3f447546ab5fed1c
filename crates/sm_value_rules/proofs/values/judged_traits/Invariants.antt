use Rattle.sm_value_rules.specs.steps.Nodes.{AreRoots}
use Rattle.sm_value_rules.specs.steps.Valuing.{WantsTrait}
use Rattle.sm_value_rules.proofs.values.judged_traits.Given as goal

abbrev pub invariant-loop-number : goal.invariant-loop-number
invariant-loop-number l = AreRoots l.graph (WantsTrait l.graph) l.number l.roots.items

use Rattle.std.proofs.Common.{take}
use Rattle.sm_tree.specs.Node.{nodes_of}
use Rattle.sm_tree.specs.View.{nodes_view}
use Rattle.sm_trait_rules.specs.steps.Conflicting.{AreTextsOf}
use Rattle.sm_trait_rules.proofs.text_set.TextSet.among.Given as goal

abbrev pub invariant-loop-entry : goal.invariant-loop-entry
invariant-loop-entry l = AreTextsOf (nodes_of (nodes_view (take l.entry-index l.entries))) l.set.texts

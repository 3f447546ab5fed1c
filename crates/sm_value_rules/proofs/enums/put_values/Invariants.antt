use Rattle.std.proofs.Common.{◌≤◌, drop, length, take}
use Rattle.std.specs.Prelude.{◌↔◌}
use Rattle.sm_tree.specs.Node.{Node}
use Rattle.sm_model.specs.GraphView.{AreShapeNumbers}
use Rattle.sm_rules.specs.RuleEvents.{Puts}
use Rattle.sm_passes.specs.Putting.{Below}
use Rattle.sm_value_rules.specs.steps.Enums.{IsValueAmong, ToldValueAt}
use Rattle.sm_value_rules.specs.steps.SeenValues.{Holds}
use Rattle.sm_value_rules.proofs.enums.put_values.Given as goal

abbrev pub invariant-loop-member : goal.invariant-loop-member
invariant-loop-member l = record {
  within : l.member-index ≤ length l.members;
  numbers : AreShapeNumbers l.graph (drop l.member-index l.members);
  seen : (n : Node) → Holds l.seen n ↔ IsValueAmong l.graph l.kind (take l.member-index l.members) n;
  puts : Puts (Below (ToldValueAt l.graph l.kind l.members) l.member-index) l.fn.events.items l.events.items;
}

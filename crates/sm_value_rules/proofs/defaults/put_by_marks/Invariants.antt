use Rattle.std.proofs.Common.{◌≤◌, length}
use Rattle.sm_model.specs.GraphView.{entries_of, maps_of}
use Rattle.sm_model.specs.Reaching.{id_of_number}
use Rattle.sm_rules.specs.RuleEvents.{Puts}
use Rattle.sm_passes.specs.Putting.{Below}
use Rattle.sm_value_rules.specs.steps.Defaulting.{IsWantedTarget, ToldDefaults}
use Rattle.sm_value_rules.specs.steps.Nodes.{IsNodeTable}
use Rattle.sm_value_rules.proofs.defaults.put_by_marks.Given as goal

abbrev pub invariant-loop-number : goal.invariant-loop-number
invariant-loop-number l = record {
  within : l.number ≤ length (entries_of l.graph);
  told : Puts (Below (λ k. ToldDefaults (maps_of l.graph) (id_of_number l.graph k)) l.number) l.fn.events.items l.events.items;
  nodes : IsNodeTable l.graph (IsWantedTarget l.graph) l.nodes;
}

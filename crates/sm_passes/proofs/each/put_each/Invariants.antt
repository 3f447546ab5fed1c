use Rattle.std.proofs.Common.{◌≤◌, length}
use Rattle.sm_model.specs.GraphView.{entries_of, maps_of}
use Rattle.sm_model.specs.Reaching.{id_of_number}
use Rattle.sm_rules.specs.RuleEvents.{Puts}
use Rattle.sm_passes.specs.Putting.{Below}
use Rattle.sm_passes.proofs.each.put_each.Given as goal

abbrev pub invariant-loop-number : goal.invariant-loop-number
invariant-loop-number g l = record {
  within : l.number ≤ length (entries_of l.graph);
  puts : Puts (Below (λ k. g.A.AtEach.tells l.rule (maps_of l.graph) (id_of_number l.graph k)) l.number) l.fn.events.items l.events.items;
}

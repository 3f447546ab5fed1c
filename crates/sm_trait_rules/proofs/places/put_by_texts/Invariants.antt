use Rattle.std.proofs.Common.{◌≤◌, [], get_or, length}
use Rattle.sm_model.specs.GraphView.{entries_of}
use Rattle.sm_rules.specs.RuleEvents.{Puts}
use Rattle.sm_passes.specs.Putting.{Below, ToldOf}
use Rattle.sm_trait_rules.specs.steps.Placing.{ToldOfUse}
use Rattle.sm_trait_rules.proofs.places.put_by_texts.Given as goal

abbrev pub invariant-loop-number : goal.invariant-loop-number
invariant-loop-number l = record {
  within : l.number ≤ length (entries_of l.graph);
  told : Puts (Below (λ first. ToldOf (ToldOfUse l.graph) (get_or l.rows first [])) l.number) l.fn.events.items l.events.items;
}

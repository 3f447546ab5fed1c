use Rattle.std.proofs.Common.{◌≤◌, length}
use Rattle.sm_rules.specs.RuleEvents.{Puts}
use Rattle.sm_passes.specs.Putting.{Below}
use Rattle.sm_trait_rules.specs.steps.Placing.{ToldUnmarked}
use Rattle.sm_trait_rules.proofs.places.put_unmarked.Given as goal

abbrev pub invariant-loop-place : goal.invariant-loop-place
invariant-loop-place l = record {
  within : l.place ≤ length l.uses;
  told : Puts (Below (ToldUnmarked l.graph l.uses l.marks) l.place) l.fn.events.items l.events.items;
}

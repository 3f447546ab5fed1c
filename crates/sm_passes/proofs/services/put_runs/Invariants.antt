use Rattle.std.proofs.Common.{length, take, ◌-◌, ◌≤◌}
use Rattle.std.specs.Map.{values_of}
use Rattle.sm_rules.specs.RuleEvents.{Puts}
use Rattle.sm_passes.specs.steps.Groups.{IsClear}
use Rattle.sm_passes.specs.Putting.{ToldOf}
use Rattle.sm_passes.proofs.services.put_runs.Given as goal

abbrev pub decreases-loop-begin : goal.decreases-loop-begin
decreases-loop-begin g l = length l.rows - l.begin

abbrev pub invariant-loop-begin : goal.invariant-loop-begin
invariant-loop-begin g l = record {
  within : l.begin ≤ length l.rows;
  clear : IsClear l.graph l.closure;
  told : Puts (ToldOf (g.R.OfServices.tells l.rule l.graph) (values_of (take l.begin l.rows))) l.fn.events.items l.events.items;
}

use Rattle.std.proofs.Common.{take}
use Rattle.sm_rules.specs.RuleEvents.{Puts}
use Rattle.sm_passes.specs.Putting.{ToldOf}
use Rattle.sm_http_rules.specs.steps.BoundTargets.{ToldBinding}
use Rattle.sm_http_rules.proofs.bound_targets.put_bindings.Given as goal

abbrev pub invariant-loop-binding : goal.invariant-loop-binding
invariant-loop-binding l =
    Puts (ToldOf (ToldBinding l.graph l.leading l.member) (take l.binding-index l.bindings)) l.fn.events.items l.events.items

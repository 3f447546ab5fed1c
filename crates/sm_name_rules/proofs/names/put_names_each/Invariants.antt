use Rattle.std.proofs.Common.{take}
use Rattle.sm_rules.specs.RuleEvents.{Puts}
use Rattle.sm_passes.specs.Putting.{ToldOf}
use Rattle.sm_name_rules.specs.steps.Naming.{ToldNames}
use Rattle.sm_name_rules.proofs.names.put_names_each.Given as goal

abbrev pub invariant-loop-service : goal.invariant-loop-service
invariant-loop-service l = Puts (ToldOf (ToldNames l.graph) (take l.service-index l.services)) l.fn.events.items l.events.items

use Rattle.std.proofs.Common.{take}
use Rattle.sm_rules.specs.RuleEvents.{Puts}
use Rattle.sm_passes.specs.Putting.{ToldOf}
use Rattle.sm_http_rules.specs.steps.SameRoutes.{IsEitherTold}
use Rattle.sm_http_rules.proofs.routes.put_with.Given as goal

abbrev pub invariant-loop-other : goal.invariant-loop-other
invariant-loop-other l =
    Puts (ToldOf (λ r. IsEitherTold l.graph r.1 l.number) (take l.other-index l.others)) l.fn.events.items l.events.items

use Rattle.std.proofs.Common.{sym, subst}
use Rattle.sm_routes.specs.steps.Matching.{StepsTo}
use Rattle.sm_routes.proofs.matching.take_segment.Goals as goal

pub returns-in-Greedy : goal.returns-in-Greedy
returns-in-Greedy c =
    subst (λ s. StepsTo s c.args.more.now c.args.rest.now c.take_greedy.result) (sym c.in-Greedy.is) (c.take_greedy.ensures c.in-Greedy.field-0)

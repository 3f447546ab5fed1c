use Rattle.std.proofs.Common.{◌<◌, subst, arith}
use Rattle.sm_select.proofs.FilledRuns.{below_at}
use Rattle.sm_select.proofs.RunLists.{steps_few}
use Rattle.sm_select.proofs.neighbors.count_steps.Goals as goal

pub count_step-requires-clause-below : goal.count_step-requires-clause-below
count_step-requires-clause-below c =
    let at = c.loop-link in
    below_at _ _ c.args.links.now at.link-index at.invariant.whole c.requires.below c.loop-link-test.true

pub count_step-requires-clause-few : goal.count_step-requires-clause-few
count_step-requires-clause-few c k lt =
    let at = c.loop-link in
    omega (
      arith,
      at.invariant.steps k (subst (λ n. k < n) at.invariant.whole lt),
      steps_few c.args.back c.args.links.now k,
      c.well_formed,
    )

use Rattle.std.proofs.Common.{arith}
use Rattle.sm_merge.specs.steps.Links.{links_view}
use Rattle.sm_merge.proofs.WalkSteps.{all_walked, links_count}
use Rattle.sm_merge.proofs.walk.walk_through.Goals as goal

pub loop-number-init : goal.loop-number-init
loop-number-init c = record {
  idle = c.in_ok-walk.ensures (links_view c.args.links.now) (links_count c.args.links.now);
  met = λ v small new. omega (arith, small);
}

pub returns : goal.returns
returns c =
    all_walked (links_view c.args.links.now) c.loop-number.walk c.loop-number.invariant.idle
    (λ v small. c.loop-number.invariant.met v (omega (arith, small, c.loop-number-test.false, links_count c.args.links.now)))

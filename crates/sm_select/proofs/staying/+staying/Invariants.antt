use Rattle.std.proofs.Common.{◌≡◌, drop, map}
use Rattle.sm_select.specs.Selectors.{alternatives_of, steps_of}
use Rattle.sm_select.specs.View.{selector_views, step_view, step_views}
use Rattle.sm_select.specs.steps.Staying.{all_stay}
use Rattle.sm_select.proofs.SelectorWeight.{alternatives_weight, step_weight, steps_weight}
use Rattle.sm_select.proofs.StillSteps.{each_stays_in}
use Rattle.sm_select.proofs.staying.+staying.Given as goal

abbrev pub decreases-all_stay : goal.decreases-all_stay
decreases-all_stay l = steps_weight (steps_of (step_views l.steps.now))

abbrev pub decreases-each_stays : goal.decreases-each_stays
decreases-each_stays l = alternatives_weight (alternatives_of (map steps_of (selector_views l.selectors.now)))

abbrev pub decreases-stays : goal.decreases-stays
decreases-stays l = step_weight (step_view l.step.now)

abbrev pub invariant-all_stay-loop-step : goal.invariant-all_stay-loop-step
invariant-all_stay-loop-step l =
    all_stay (steps_of (step_views (drop l.step-index l.steps))) ≡ all_stay (steps_of (step_views l.steps))

abbrev pub invariant-each_stays-loop-selector : goal.invariant-each_stays-loop-selector
invariant-each_stays-loop-selector l = each_stays_in (drop l.selector-index l.selectors) ≡ each_stays_in l.selectors

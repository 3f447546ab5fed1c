use Rattle.std.proofs.Common.{◌≡◌, drop, length, map}
use Rattle.sm_select.specs.Selectors.{alternatives_of, steps_of}
use Rattle.sm_select.specs.View.{selector_views, step_view, step_views}
use Rattle.sm_select.proofs.SelectorWeight.{alternatives_weight, step_weight, steps_weight}
use Rattle.sm_select.proofs.StillSteps.{KeepsByOne, KeepsOn}
use Rattle.sm_select.proofs.staying.+still.Given as goal

abbrev pub decreases-still_of : goal.decreases-still_of
decreases-still_of l = steps_weight (steps_of (step_views l.steps.now))

abbrev pub decreases-still_of_any : goal.decreases-still_of_any
decreases-still_of_any l = alternatives_weight (alternatives_of (map steps_of (selector_views l.selectors.now)))

abbrev pub decreases-still_of_step : goal.decreases-still_of_step
decreases-still_of_step l = step_weight (step_view l.step.now)

abbrev pub invariant-still_of-loop-step : goal.invariant-still_of-loop-step
invariant-still_of-loop-step l = record {
  count : length l.marks.items ≡ length l.numbers;
  keeps : KeepsOn l.graph l.numbers l.fn.starts l.marks.items (steps_of (step_views (drop l.step-index l.steps)))
      (steps_of (step_views l.steps));
}

abbrev pub invariant-still_of_any-loop-selector : goal.invariant-still_of_any-loop-selector
invariant-still_of_any-loop-selector l = record {
  count : length l.marks.items ≡ length l.numbers;
  keeps : KeepsByOne l.graph l.numbers l.starts l.marks.items (drop l.selector-index l.selectors) l.selectors;
}

use Rattle.std.proofs.Common.{◌≡◌, ◌⊎◌, ◌↔◌, ◌+◌, ◌-◌, ◌*◌, ℕ, true, drop, length, map}
use Rattle.sm_model.specs.GraphView.{entries_of, maps_of}
use Rattle.sm_model.specs.Reaching.{IsMarked}
use Rattle.sm_select.specs.Images.{AreImage, turned}
use Rattle.sm_select.specs.Picks.{PickedByOne, Picks}
use Rattle.sm_select.specs.Selectors.{alternatives_of, steps_of}
use Rattle.sm_select.specs.View.{selector_views, step_view, step_views}
use Rattle.sm_select.specs.steps.Imaging.{IsInImage, LeadsOn}
use Rattle.sm_select.proofs.SelectorWeight.{alternatives_weight, step_weight, steps_weight}
use Rattle.sm_select.proofs.images.+images.Given as goal

abbrev pub decreases-image_of : goal.decreases-image_of
decreases-image_of l = 4 * steps_weight (steps_of (step_views l.steps.now))

abbrev pub decreases-origin_of : goal.decreases-origin_of
decreases-origin_of l = 4 * steps_weight (steps_of (step_views l.steps.now))

abbrev pub decreases-image : goal.decreases-image
decreases-image l = 4 * steps_weight (steps_of (step_views l.steps.now)) + 1

abbrev pub decreases-image_of_any : goal.decreases-image_of_any
decreases-image_of_any l = 4 * alternatives_weight (alternatives_of (map steps_of (selector_views l.selectors.now)))

abbrev pub decreases-picking : goal.decreases-picking
decreases-picking l = 4 * steps_weight (steps_of (step_views l.steps.now)) + 1

abbrev pub decreases-picking_any : goal.decreases-picking_any
decreases-picking_any l = 4 * alternatives_weight (alternatives_of (map steps_of (selector_views l.selectors.now))) + 1

abbrev pub decreases-image_of_step : goal.decreases-image_of_step
decreases-image_of_step l = 4 * step_weight (step_view l.step.now)

abbrev pub invariant-image_of-loop-step : goal.invariant-image_of-loop-step
invariant-image_of-loop-step l = record {
  count : length l.marks.items ≡ length (entries_of l.graph);
  leads : LeadsOn l.graph l.fn.starts l.marks.items (steps_of (step_views (drop l.step-index l.steps))) (steps_of (step_views l.steps));
}

abbrev pub invariant-origin_of-loop-done : goal.invariant-origin_of-loop-done
invariant-origin_of-loop-done l = record {
  count : length l.marks.items ≡ length (entries_of l.graph);
  leads : AreImage l.graph l.fn.ends
      (turned true (Picks (maps_of l.graph) (steps_of (step_views (drop (length l.steps - l.done) l.steps))))) l.marks.items;
}

abbrev pub invariant-image_of_any-loop-selector : goal.invariant-image_of_any-loop-selector
invariant-image_of_any-loop-selector l = record {
  count : length l.marks.items ≡ length (entries_of l.graph);
  leads : (k : ℕ) → (IsMarked l.marks.items k ⊎ IsInImage l.graph l.starts (turned l.back (PickedByOne (maps_of l.graph)
      (alternatives_of (map steps_of (selector_views (drop l.selector-index l.selectors)))))) k)
      ↔ IsInImage l.graph l.starts (turned l.back (PickedByOne (maps_of l.graph)
      (alternatives_of (map steps_of (selector_views l.selectors))))) k;
}

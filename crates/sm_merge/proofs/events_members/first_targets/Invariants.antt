use Rattle.std.proofs.Common.{◌≡◌, ◌≤◌, ℕ, List, drop, length}
use Rattle.sm_merge.specs.steps.Firsts.{targets_view}
use Rattle.sm_merge.specs.steps.PlaceEvents.{first_among, first_in}
use Rattle.sm_merge.proofs.events_members.first_targets.Given as goal

abbrev pub decreases-loop-left : goal.decreases-loop-left
decreases-loop-left l = l.left

abbrev pub invariant-loop-left : goal.invariant-loop-left
invariant-loop-left l = record {
  left : l.left ≤ length l.members;
  told : (name : List ℕ) → first_in l.firsts name ≡ first_among (targets_view (drop l.left l.members)) name;
}

use Rattle.std.proofs.Common.{◌≡◌, ◌≤◌, ℕ, length, reverse, Some, vec_len}
use Rattle.sm_merge.specs.declared.walk.Status.TheVariants.{Begun}
use Rattle.sm_merge.specs.steps.Links.{At, Links}
use Rattle.sm_merge.specs.steps.Walking.{AllReach, IsJoining, IsWalking}
use Rattle.sm_merge.proofs.walk.Walk.join.Given as goal

abbrev pub decreases-loop-part : goal.decreases-loop-part
decreases-loop-part l = vec_len l.self.path

abbrev pub invariant-loop-part : goal.invariant-loop-part
invariant-loop-part l = record {
  status : l.self.status.items ≡ l.fn.self.status.items;
  row : l.self.row.items ≡ l.fn.self.row.items;
  targets : l.self.targets.items ≡ l.fn.self.targets.items;
  order : l.self.order.items ≡ l.fn.self.order.items;
  path : length l.self.path.items ≤ length l.fn.self.path.items;
  joins : (links : Links) (w : ℕ) → At l.fn.self.status.items w (Begun l.place) → IsWalking links (Some w) l.fn.self
      → AllReach links l.fn.self.row.items w
      → IsJoining links l.fn.self.status.items l.fn.self.row.items l.fn.self.targets.items w l.place (reverse l.self.path.items);
}

use Rattle.std.proofs.Common.{◌<◌, ℕ}
use Rattle.sm_merge.specs.steps.Links.{links_view}
use Rattle.sm_merge.specs.steps.Walking.{IsIdle, IsMet}
use Rattle.sm_merge.proofs.walk.walk_through.Given as goal

abbrev pub invariant-loop-number : goal.invariant-loop-number
invariant-loop-number l = record {
  idle : IsIdle (links_view l.links) l.walk;
  met : (v : ℕ) → v < l.number → IsMet l.walk.status.items v;
}

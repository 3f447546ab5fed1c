use Rattle.std.proofs.Common.{◌≡◌, ◌⊎◌, ℕ, drop, length}
use Rattle.std.specs.Prelude.{◌↔◌}
use Rattle.sm_model.specs.Reaching.{IsMarked}
use Rattle.sm_select.specs.Followed.{Follows}
use Rattle.sm_select.specs.steps.Reaching.{AnyOf}
use Rattle.sm_select.proofs.follow.followed.Given as goal

abbrev pub invariant-loop-link : goal.invariant-loop-link
invariant-loop-link l = record {
  count : length l.marks.items ≡ length l.starts;
  ends : (b : ℕ) → (IsMarked l.marks.items b ⊎ AnyOf (λ k. Follows l.relations l.back l.starts k b) (drop l.link-index l.links))
      ↔ AnyOf (λ k. Follows l.relations l.back l.starts k b) l.links;
}

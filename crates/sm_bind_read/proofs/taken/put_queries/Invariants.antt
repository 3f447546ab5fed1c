use Rattle.std.proofs.Common.{◌≡◌, ℕ, List, drop}
use Rattle.std.specs.Prelude.{◌||◌}
use Rattle.sm_bind.specs.BoundView.{bound_of}
use Rattle.sm_bind.specs.Roles.{is_among}
use Rattle.sm_bind_read.specs.steps.Taken.{has_text, queries_of}
use Rattle.sm_bind_read.proofs.taken.put_queries.Given as goal

abbrev pub invariant-loop-member : goal.invariant-loop-member
invariant-loop-member l = (key : List ℕ)
    → (has_text l.keys key || is_among (queries_of (bound_of l.place) (drop l.member-index l.members)) key)
    ≡ (has_text l.fn.keys key || is_among (queries_of (bound_of l.place) l.members) key)

use Rattle.std.proofs.Common.{◌≡◌, ◌++◌, ℕ, List, drop}
use Rattle.sm_merge.specs.steps.Filling.{kept_of}
use Rattle.sm_merge.specs.steps.MemberLists.{rows_under}
use Rattle.sm_merge.proofs.effective_members.put_copies.Given as goal

abbrev pub invariant-loop-member : goal.invariant-loop-member
invariant-loop-member l = (name : List ℕ)
    → rows_under name l.lists.items ++ kept_of (drop l.member-index l.members) name
    ≡ rows_under name l.fn.lists.items ++ kept_of l.members name

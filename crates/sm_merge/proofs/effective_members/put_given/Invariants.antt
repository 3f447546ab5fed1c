use Rattle.std.proofs.Common.{◌≡◌, ◌++◌, ℕ, List, drop}
use Rattle.sm_merge.specs.steps.Filling.{given_rows}
use Rattle.sm_merge.specs.steps.Firsts.{targets_view}
use Rattle.sm_merge.specs.steps.MemberLists.{rows_under}
use Rattle.sm_merge.proofs.effective_members.put_given.Given as goal

abbrev pub invariant-loop-member : goal.invariant-loop-member
invariant-loop-member l = (name : List ℕ)
    → rows_under name l.lists.items ++ given_rows l.rows l.shape (targets_view (drop l.member-index l.members)) name
    ≡ rows_under name l.fn.lists.items ++ given_rows l.rows l.shape (targets_view l.members) name

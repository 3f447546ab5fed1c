use Rattle.std.proofs.Common.{◌≡◌, ◌++◌}
use Rattle.std.specs.Vec.Iter.{into_iter_items}
use Rattle.sm_merge.specs.steps.Filling.{folded_rows}
use Rattle.sm_merge.specs.steps.MemberLists.{joined_rows}
use Rattle.sm_merge.proofs.effective_members.joined.Given as goal

abbrev pub invariant-loop-list : goal.invariant-loop-list
invariant-loop-list l = folded_rows l.rows.items ++ joined_rows (into_iter_items l.list-iterator)
    ≡ folded_rows l.initial.rows.items ++ joined_rows (into_iter_items l.initial.list-iterator)

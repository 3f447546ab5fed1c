use Rattle.std.proofs.Common.{ℕ, List, ◌++◌}
use Rattle.std.specs.Vec.Iter.{into_iter_items}
use Rattle.sm_merge.specs.steps.EffectiveTables.{by_members}
use Rattle.sm_merge.specs.steps.Filling.{AreFirstRows}
use Rattle.sm_groups.specs.Groups.{groups_view}
use Rattle.sm_merge.specs.steps.MemberLists.{joined_rows}
use Rattle.sm_merge.specs.steps.Tables.{ComeToRows}
use Rattle.sm_merge.specs.declared.effective.NamedFolded.{NamedFolded}
use Rattle.sm_merge.proofs.effective_members.first_lists.Given as goal

abbrev pub invariant-loop-group : goal.invariant-loop-group
invariant-loop-group l = (more : List (List ℕ × List NamedFolded))
    → ComeToRows (λ vs ts. AreFirstRows (joined_rows vs) ts) (groups_view (into_iter_items l.group-iterator)) more
    → ComeToRows (λ vs ts. AreFirstRows (joined_rows vs) ts) (groups_view (into_iter_items l.initial.group-iterator))
    (by_members l.lists.items ++ more)

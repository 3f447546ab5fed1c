use Rattle.std.proofs.Common.{◌≡◌, ◌++◌, drop}
use Rattle.sm_merge.specs.steps.Filling.{all_targets}
use Rattle.sm_merge.specs.steps.Firsts.{firsts, targets_view, unseen}
use Rattle.sm_merge.specs.steps.Known.{has_text}
use Rattle.sm_merge.proofs.members.members_of.Given as goal

abbrev pub invariant-loop-mixin : goal.invariant-loop-mixin
invariant-loop-mixin l =
    targets_view l.members.items ++ unseen (has_text l.seen) (firsts (all_targets l.all (drop l.mixin-index l.mixed) l.row.members.items))
    ≡ firsts (all_targets l.all l.mixed l.row.members.items)

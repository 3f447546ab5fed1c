use Rattle.std.proofs.Common.{◌≡◌, ◌++◌, drop}
use Rattle.sm_model.specs.GivenView.{members_given_view}
use Rattle.sm_merge.specs.steps.Firsts.{targets_view}
use Rattle.sm_merge.specs.steps.Made.{made_members}
use Rattle.sm_merge.proofs.shape_parts.copied_members.Given as goal

abbrev pub invariant-loop-member : goal.invariant-loop-member
invariant-loop-member l =
    members_given_view l.all.items ++ made_members l.kind l.traits.members.items (targets_view (drop l.member-index l.members))
    ≡ made_members l.kind l.traits.members.items (targets_view l.members)

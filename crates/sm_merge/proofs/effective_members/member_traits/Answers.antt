use Rattle.std.proofs.Common.{◌++◌, ap, ◌∙◌}
use Rattle.std.proofs.lemmas.Result.{IfOk-weaker}
use Rattle.sm_merge.specs.steps.Filling.{given_rows, kept_by, last_first, member_rows}
use Rattle.sm_merge.specs.steps.Firsts.{targets_view}
use Rattle.sm_groups.specs.Groups.{groups_view}
use Rattle.sm_merge.specs.steps.MemberLists.{AreMemberTraits, ComeToFirsts, rows_under}
use Rattle.sm_merge.proofs.MemberListsMade.{made_lists}
use Rattle.sm_merge.proofs.effective_members.member_traits.Goals as goal

pub returns : goal.returns
returns c =
    IfOk-weaker c.first_lists.result (λ lists. ComeToFirsts (groups_view c.in_ok-groups.groups.items) lists.items)
    (λ lists. AreMemberTraits (member_rows c.args.rows.now c.args.shape.now
    (targets_view c.args.members.now) c.args.all.now c.args.mixed.now)
    lists.items)
    (λ lists come. made_lists c.put_mixed.new.lists.items (groups_view c.in_ok-groups.groups.items) lists.items
    (member_rows c.args.rows.now c.args.shape.now (targets_view c.args.members.now) c.args.all.now c.args.mixed.now)
    c.in_ok-groups.ensures come
    (λ name. c.in_ok-put_mixed.ensures name
    ∙ ap (λ rows. rows ++ last_first (kept_by name c.args.all.now) c.args.mixed.now)
    (c.in_ok-put_given.ensures name
    ∙ ap (λ ls. rows_under name ls ++ given_rows c.args.rows.now c.args.shape.now (targets_view c.args.members.now) name)
    c.new-lists.ensures.items)))
    c.first_lists.ensures

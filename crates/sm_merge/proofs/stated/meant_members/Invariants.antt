use Rattle.std.proofs.Common.{◌≡◌, ◌++◌, drop}
use Rattle.sm_model.specs.Formed.{AreStatedMembers}
use Rattle.sm_model.specs.GivenView.{members_given_view}
use Rattle.sm_model.specs.SaidView.{member_statements_view}
use Rattle.sm_merge.specs.steps.Known.{known}
use Rattle.sm_merge.specs.steps.Rows.{members_stated}
use Rattle.sm_merge.proofs.stated.meant_members.Given as goal

abbrev pub invariant-loop-member : goal.invariant-loop-member
invariant-loop-member l = record {
  formed : AreStatedMembers (member_statements_view (drop l.member-index l.members));
  made : members_given_view l.made.items ++ members_stated (known l.names) (member_statements_view (drop l.member-index l.members))
      ≡ members_stated (known l.names) (member_statements_view l.members);
}

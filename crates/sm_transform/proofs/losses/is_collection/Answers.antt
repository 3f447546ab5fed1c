use Rattle.sm_model.proofs.Worklist.{apart}
use Rattle.sm_transform.proofs.LossesNeeded.{kind_is, member_is_none}
use Rattle.sm_transform.proofs.losses.is_collection.Goals as goal

pub returns-then-is_member : goal.returns-then-is_member
returns-then-is_member c = (
  λ h. absurd (apart h),
  λ h. absurd (member_is_none c.args.graph.now c.args.number c.is_member.result c.is_member.ensures c.if-is_member.true h),
)

pub returns : goal.returns
returns c =
    let is = kind_is c.args.graph.now c.args.number c.kind.result c.kind.ensures in (
      λ h. is.1 (c.is_list_or_map.ensures.0 h),
      λ h. c.is_list_or_map.ensures.1 (is.0 h),
    )

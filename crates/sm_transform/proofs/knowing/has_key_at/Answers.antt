use Rattle.sm_tree.specs.View.{node_of}
use Rattle.sm_model.proofs.Worklist.{apart}
use Rattle.sm_transform.proofs.KnownIds.{key_at, member_knows}
use Rattle.sm_transform.proofs.knowing.has_key_at.Goals as goal

pub returns-then-is_member : goal.returns-then-is_member
returns-then-is_member c = (
  λ h. absurd (apart h),
  λ h. absurd (member_knows c.args.namespace.now c.args.graph.now c.args.number c.is_member.result c.is_member.ensures
      c.if-is_member.true h),
)

pub returns : goal.returns
returns c =
    let at = key_at c.args.namespace.now c.args.graph.now c.args.number c.kind.result (node_of c.properties.result.now) c.kind.ensures
    c.properties.ensures in (
      λ h. at.0 (c.has_key.ensures.0 h),
      λ h. c.has_key.ensures.1 (at.1 h),
    )

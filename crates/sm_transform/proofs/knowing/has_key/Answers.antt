use Rattle.sm_tree.specs.Node.{members_of}
use Rattle.sm_tree.specs.View.{members_view, node_of}
use Rattle.sm_model.proofs.Worklist.{apart}
use Rattle.sm_transform.proofs.KnownIds.{body_knows}
use Rattle.sm_transform.proofs.knowing.has_key.Goals as goal

pub returns-in-Some : goal.returns-in-Some
returns-in-Some c =
    let is = body_knows c.args.namespace.now c.args.kind (node_of c.args.body.now) (members_of (members_view c.in-Some.fields.now))
    c.in-Some.ensures.node in (
      λ h. is.0 (c.some_key.ensures.0 h),
      λ h. c.some_key.ensures.1 (is.1 h),
    )

pub returns-in-None : goal.returns-in-None
returns-in-None c = (λ h. absurd (apart h), λ h. absurd (c.in-None.ensures.node h.0 h.1))

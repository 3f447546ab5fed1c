use Rattle.std.proofs.Common.{sym, ◌∙◌}
use Rattle.sm_tree.specs.View.{members_view, node_of}
use Rattle.sm_model.proofs.Worklist.{apart}
use Rattle.sm_transform.proofs.KnownIds.{object_knows}
use Rattle.sm_transform.proofs.knowing.has_key_in.Goals as goal

pub returns-in-Some : goal.returns-in-Some
returns-in-Some c =
    let is = object_knows c.args.namespace.now (node_of c.args.value.now) (members_view c.in-Some.pairs.now) c.in-Some.ensures.node in (
      λ h. is.0 (sym c.is_under.ensures ∙ h),
      λ h. c.is_under.ensures ∙ is.1 h,
    )

pub returns-in-None : goal.returns-in-None
returns-in-None c = (λ h. absurd (apart h), λ h. absurd (c.in-None.ensures.node h.0 h.1))

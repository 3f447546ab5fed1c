use Rattle.std.proofs.Common.{sym, ◌∙◌}
use Rattle.sm_tree.specs.View.{members_view}
use Rattle.sm_transform.proofs.KnownIds.{traits_know}
use Rattle.sm_transform.proofs.knowing.has_trait_in.Goals as goal

pub returns : goal.returns
returns c =
    let know = traits_know c.args.namespace.now c.args.graph.now c.args.number (members_view c.traits.result.now) c.traits.ensures in
    (λ h. know.0 (sym c.is_under.ensures ∙ h), λ h. c.is_under.ensures ∙ know.1 h)

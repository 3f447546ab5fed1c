use Rattle.std.proofs.Common.{ap, sym, ◌∙◌}
use Rattle.sm_model.specs.Reaching.{id_of_number}
use Rattle.sm_transform.specs.Namespaces.{is_of_namespace}
use Rattle.sm_transform.proofs.KnownIds.{of_is}
use Rattle.sm_transform.proofs.StepsNeeded.{id_told}
use Rattle.sm_transform.proofs.knowing.is_in_namespace.Goals as goal

pub returns : goal.returns
returns c =
    let g = c.args.graph.now in
    let ns = c.args.namespace.now in
    let id = id_of_number g c.args.number in
    let name = c.as_str.ensures ∙ id_told g c.args.number c.id.result.now c.id.ensures in
    let told = c.is_of.ensures ∙ ap (is_of_namespace ns) name in
    (λ h. (of_is ns id).0 (sym told ∙ h), λ h. told ∙ (of_is ns id).1 h)

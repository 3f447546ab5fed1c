use Rattle.std.proofs.Common.{ap, ◌∙◌}
use Rattle.std.specs.Str.{bytes_eq}
use Rattle.sm_transform.specs.Namespaces.{api_namespace, is_of_api}
use Rattle.sm_transform.proofs.StepsNeeded.{id_told}
use Rattle.sm_transform.proofs.numbers.is_of_api_at.Goals as goal

pub returns : goal.returns
returns c =
    c.eq.ensures ∙ ap (λ n. bytes_eq n api_namespace) c.namespace_and_name.ensures.namespace
    ∙ ap is_of_api (c.as_str.ensures ∙ id_told c.args.graph.now c.args.number c.id.result.now c.id.ensures)

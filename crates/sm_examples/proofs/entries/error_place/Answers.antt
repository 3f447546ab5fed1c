use Rattle.std.proofs.Common.{◌<◌, ◌^◌, ◌∙◌, ap, length, map, subst, sym}
use Rattle.sm_shapes.specs.Names.{AllDiffer}
use Rattle.sm_compile.specs.TraitNodes.{text_of}
use Rattle.sm_messages.specs.service.ServiceData.{name_of_error}
use Rattle.sm_messages.specs.service.ServiceView.{service_data}
use Rattle.sm_messages.proofs.TreeBodies.{operation_servable}
use Rattle.sm_examples.specs.Entries.{error_told, error_with_id}
use Rattle.sm_examples.proofs.entries.error_place.Goals as goal

pub error_with_id-requires-clause-few : goal.error_with_id-requires-clause-few
error_with_id-requires-clause-few c =
    subst (λ d. length d.errors < 2 ^ 32) (sym c.operation_at.ensures)
    (operation_servable (service_data c.args.service.now) c.args.operation c.requires.servable c.requires.number).few

pub error_with_id-requires-clause-differ : goal.error_with_id-requires-clause-differ
error_with_id-requires-clause-differ c =
    subst (λ d. AllDiffer (map name_of_error d.errors)) (sym c.operation_at.ensures)
    (operation_servable (service_data c.args.service.now) c.args.operation c.requires.servable c.requires.number).error_names

pub returns-in-Some : goal.returns-in-Some
returns-in-Some c =
    c.error_with_id.ensures ∙ ap (λ d. error_with_id d.errors c.in-Some.id.now) c.operation_at.ensures
    ∙ ap (error_told (service_data c.args.service.now) c.args.operation) (c.in-Some.ensures ∙ ap text_of c.field_of.ensures)

pub returns-in-None : goal.returns-in-None
returns-in-None c = ap (error_told (service_data c.args.service.now) c.args.operation) (c.in-None.ensures ∙ ap text_of c.field_of.ensures)

use Rattle.std.proofs.Common.{◌<◌, arith, length, sym, subst, ◌∙◌}
use Rattle.std.specs.List.{Contains}
use Rattle.sm_rest.specs.service.ServiceView.{service_data}
use Rattle.sm_rest.specs.messages.Names.{error_name}
use Rattle.sm_rest.proofs.messages.HeadsJudged.{place_within}
use Rattle.sm_rest.proofs.messages.TreeBodies.{operation_servable}
use Rattle.sm_rest_read.proofs.naming.place_told.Goals as goal

pub error_told-requires-clause-ids : goal.error_told-requires-clause-ids
error_told-requires-clause-ids c = λ e there.
    ((operation_servable (service_data c.args.service.now) c.args.operation c.requires.servable c.requires.number).errors e
    (subst (λ d. Contains d.errors e) c.operation_at.ensures there)).1

pub overflow_cast-result : goal.overflow_cast-result
overflow_cast-result c =
    let es = c.operation_at.result.now.errors in
    let less : c.in-Some.place < length es =
    place_within es (error_name c.as_bytes.result.now) c.in-Some.place (sym c.error_told.ensures ∙ c.in-Some.is)
    in
    let few = (operation_servable (service_data c.args.service.now) c.args.operation c.requires.servable c.requires.number).few in
    let long = subst (λ d. length d.errors < 4294967296) (sym c.operation_at.ensures) few in
    omega (arith, less, long)

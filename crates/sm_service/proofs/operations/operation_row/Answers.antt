use Rattle.std.proofs.Common.{subst, ◌∙◌}
use Rattle.std.specs.List.{Contains}
use Rattle.std.specs.Prelude.{codes}
use Rattle.sm_model.specs.GraphView.{maps_of}
use Rattle.sm_model.specs.Reaching.{id_of_number}
use Rattle.sm_compile.specs.steps.Numbered.{numbering}
use Rattle.sm_service.specs.ServedOperation.{TellsAllServed, walk_roots}
use Rattle.sm_service.specs.ServiceView.{served_said}
use Rattle.sm_service.specs.steps.OperationRows.{errors_named, ids_of_errors}
use Rattle.sm_service.proofs.NamesOfErrors.{all_said, own_stand, rows_differ}
use Rattle.sm_service.proofs.OperationRowsTold.{field_row, operation_told, refers_told}
use Rattle.sm_service.proofs.ServedErrors.{all_served}
use Rattle.sm_service.proofs.operations.operation_row.Goals as goal

pub referred-input-requires-clause-there : goal.referred-input-requires-clause-there
referred-input-requires-clause-there c =
    let r = c.requires.operation in
    refers_told c.args.graph.now c.args.shapes.now c.requires.rows r.0 (codes "input") r.2.input c.args.operation r.2.own.0

pub referred-output-requires-clause-there : goal.referred-output-requires-clause-there
referred-output-requires-clause-there c =
    let r = c.requires.operation in
    refers_told c.args.graph.now c.args.shapes.now c.requires.rows r.0 (codes "output") r.2.output c.args.operation r.2.own.0

pub named_errors-requires-clause-errors : goal.named_errors-requires-clause-errors
named_errors-requires-clause-errors c = let r = c.requires.operation in (r.0, r.2.own.0, r.2.errors)

pub own_served-requires-clause-errors : goal.own_served-requires-clause-errors
own_served-requires-clause-errors c e there =
    let r = c.requires.operation in
    own_stand c.args.graph.now c.args.shapes.now r.0 c.in_ok-own.own.items (c.in_ok-own.ensures.errors r.0 r.2.own.0) c.requires.rows e
    (subst (λ es. Contains es e) c.as_slice.ensures.value there)

pub joined-requires-clause-own : goal.joined-requires-clause-own
joined-requires-clause-own c =
    let r = c.requires.operation in
    rows_differ (maps_of c.args.graph.now) (numbering c.args.graph.now c.args.shapes.now) (errors_named r.0) c.in_ok-own.own.items
    (c.in_ok-own.ensures.errors r.0 r.2.own.0) r.2.names

pub row_at-requires-clause-there : goal.row_at-requires-clause-there
row_at-requires-clause-there c =
    let r = c.requires.operation in
    field_row c.args.graph.now c.args.shapes.now c.requires.rows r.0 (codes "input") r.2.input c.referred-input.result
    c.referred-input.ensures.number (c.referred-input.ensures.said r.0 r.2.own.0)

pub row_at-requires-2-clause-there : goal.row_at-requires-2-clause-there
row_at-requires-2-clause-there c =
    let r = c.requires.operation in
    field_row c.args.graph.now c.args.shapes.now c.requires.rows r.0 (codes "output") r.2.output c.referred-output.result
    c.referred-output.ensures.number (c.referred-output.ensures.said r.0 r.2.own.0)

pub returns-clause-row : goal.returns-clause-row
returns-clause-row c =
    let g = c.args.graph.now in
    let shapes = c.args.shapes.now in
    let r = c.requires.operation in
    let own = c.in_ok-own.own.items in
    let known = c.args.shared.now.known.value in
    let is = c.in_ok-errors.ensures in
    operation_told g shapes known c.args.operation _ c.referred-input.result c.referred-output.result c.in_ok-id.ensures
    (c.in_ok-name.ensures.bytes ∙ c.name_at.ensures) c.referred-input.ensures.said c.referred-output.ensures.said c.row_at.ensures
    c.row_at-2.ensures
    (λ s service has shares. all_said g shapes s service own known is.again c.in_ok-errors.errors (c.in_ok-own.ensures.errors s has) is.places
    shares is.joined)
    c.in_ok-http.ensures
    (all_served g shapes r.0 r.1 own known is.again (c.in_ok-own.ensures.errors r.0 r.2.own.0) is.places r.3 c.referred-input.result
    c.referred-output.result c.in_ok-errors.errors is.joined (served_said c.in_ok-walked.walked)
    (served_said c.args.shared.now.served) (served_said c.in_ok-served.served)
    (subst (λ es. TellsAllServed (maps_of g) (walk_roots (id_of_number g c.referred-input.result) (id_of_number g c.referred-output.result)
    (ids_of_errors es)) (served_said c.in_ok-walked.walked)) c.as_slice.ensures.value c.in_ok-walked.ensures.served)
    c.requires.shared.1 c.in_ok-served.ensures)

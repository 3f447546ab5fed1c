use Rattle.std.proofs.Common.{map, subst, sym}
use Rattle.std.specs.List.{Contains}
use Rattle.sm_model.specs.GraphView.{maps_of}
use Rattle.sm_model.specs.Reaching.{id_of_number}
use Rattle.sm_compile.specs.Compiled.{EachSays}
use Rattle.sm_compile.specs.steps.Numbered.{numbering}
use Rattle.sm_service.specs.Compiled.{SaysError}
use Rattle.sm_service.specs.ErrorOrder.{NamesDiffer}
use Rattle.sm_service.specs.References.{once}
use Rattle.sm_service.specs.ServiceView.{operations_view}
use Rattle.sm_service.specs.steps.OperationRows.{IsReadyOperation, TellsOperation, errors_named}
use Rattle.sm_service.proofs.NamesOfErrors.{own_stand}
use Rattle.sm_service.proofs.OperationRowsTold.{operations_are}
use Rattle.sm_service.proofs.OperationsReady.{filled_names, ready_operation, row_numbers, service_errors, service_tell, shape_at, shares_errors}
use Rattle.sm_service.proofs.operations.operations.Goals as goal

pub known_errors-requires-clause-is_shape : goal.known_errors-requires-clause-is_shape
known_errors-requires-clause-is_shape c =
    shape_at c.args.graph.now c.args.service c.requires.service.0 c.requires.number c.requires.service.1.0

pub known_errors-requires-clause-rows : goal.known_errors-requires-clause-rows
known_errors-requires-clause-rows c =
    let g = c.args.graph.now in
    row_numbers g (id_of_number g c.args.service) c.requires.service c.requires.ready c.args.shapes.now c.requires.shapes

pub known_errors-requires-clause-errors : goal.known_errors-requires-clause-errors
known_errors-requires-clause-errors c =
    let g = c.args.graph.now in
    let id = id_of_number g c.args.service in
    let is = c.requires.service in
    let ready = c.requires.ready in (
      is.0,
      is.1.0,
      service_errors g id is ready c.args.shapes.now c.requires.shapes is.0 is.1,
      service_tell g id is ready is.0 is.1,
    )

pub share_errors-requires-clause-names : goal.share_errors-requires-clause-names
share_errors-requires-clause-names c =
    let g = c.args.graph.now in filled_names g (id_of_number g c.args.service) c.requires.service c.requires.ready

pub share_errors-requires-clause-errors : goal.share_errors-requires-clause-errors
share_errors-requires-clause-errors c e there =
    let g = c.args.graph.now in
    let shapes = c.args.shapes.now in
    let is = c.requires.service in
    own_stand g shapes is.0 c.in_ok-known.known.value (c.in_ok-known.ensures.rows is.0 is.1.0)
    (row_numbers g (id_of_number g c.args.service) is c.requires.ready shapes c.requires.shapes) e there

pub operation_rows-requires-clause-shared : goal.operation_rows-requires-clause-shared
operation_rows-requires-clause-shared c =
    let shared = c.in_ok-shared.ensures in (subst NamesDiffer (sym shared.same) c.in_ok-known.ensures.differ, shared.served)

pub operation_rows-requires-clause-rows : goal.operation_rows-requires-clause-rows
operation_rows-requires-clause-rows c =
    let g = c.args.graph.now in
    row_numbers g (id_of_number g c.args.service) c.requires.service c.requires.ready c.args.shapes.now c.requires.shapes

pub operation_rows-requires-clause-names : goal.operation_rows-requires-clause-names
operation_rows-requires-clause-names c =
    let g = c.args.graph.now in filled_names g (id_of_number g c.args.service) c.requires.service c.requires.ready

pub operation_rows-requires-clause-operations : goal.operation_rows-requires-clause-operations
operation_rows-requires-clause-operations c k among =
    let g = c.args.graph.now in
    let is = c.requires.service in
    let numbers = c.in_ok-numbers.ensures in
    let there = subst (λ ks. Contains ks k) c.as_slice.ensures.value among in
    subst (λ es. IsReadyOperation g c.args.shapes.now es k) (sym c.in_ok-shared.ensures.same)
    (ready_operation g (id_of_number g c.args.service) is c.requires.ready c.args.shapes.now c.requires.shapes c.in_ok-known.known.value
    (c.in_ok-known.ensures.rows is.0 is.1.0) k (numbers.numbers k there) (numbers.each k there))

pub returns : goal.returns
returns c v own =
    let g = c.args.graph.now in
    let id = id_of_number g c.args.service in
    let shapes = c.args.shapes.now in
    let known = c.in_ok-shared.shared.known.value in
    let os = operations_view c.new.result in
    operations_are g shapes known id v c.in_ok-numbers.numbers.items os c.in_ok-numbers.ensures
    (subst (λ ks. EachSays (TellsOperation g shapes known) (map (id_of_number g) ks) os) c.as_slice.ensures.value
    (subst (EachSays (TellsOperation g shapes known) (map (id_of_number g) c.as_slice.result.now)) (sym c.new.ensures) c.in_ok-rows.ensures))
    (shares_errors g id c.requires.service c.requires.ready shapes c.requires.shapes known v own
    (subst (λ es. EachSays (SaysError (maps_of g) (numbering g shapes)) (once (errors_named v)) es) (sym c.in_ok-shared.ensures.same)
    (c.in_ok-known.ensures.rows v own.0)))

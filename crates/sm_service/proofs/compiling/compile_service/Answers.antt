use Rattle.std.proofs.Common.{length, subst, sym}
use Rattle.sm_model.specs.GraphView.{entries_of, maps_of}
use Rattle.sm_model.specs.Reaching.{AreMarks, id_of_number}
use Rattle.sm_rules.specs.Ready.{IsOfService}
use Rattle.sm_service.specs.steps.ServiceTables.{AreValueShapes}
use Rattle.sm_service.specs.steps.ServicesMade.{IsServiceFrom}
use Rattle.sm_service.proofs.CompiledServices.{refused_service, service_seen}
use Rattle.sm_service.proofs.compiling.compile_service.Goals as goal

pub service_table-requires-clause-marks : goal.service_table-requires-clause-marks
service_table-requires-clause-marks g c =
    let m = c.args.graph.now in
    subst (AreMarks (length (entries_of m)) (λ k. IsOfService (maps_of m) (id_of_number m c.args.service) (id_of_number m k)))
    (sym c.as_slice.ensures.value) c.in-Ok.ensures.led

pub returns-in-Err-service_table : goal.returns-in-Err-service_table
returns-in-Err-service_table g c =
    let m = c.args.graph.now in
    refused_service m (id_of_number m c.args.service) g.P.Patterns.test _ _ c.requires.service c.in-Err-service_table.refusal
    c.in-Err-service_table.ensures

pub with_operations-requires-clause-marks : goal.with_operations-requires-clause-marks
with_operations-requires-clause-marks g c =
    let m = c.args.graph.now in
    subst (AreMarks (length (entries_of m)) (λ k. IsOfService (maps_of m) (id_of_number m c.args.service) (id_of_number m k)))
    (sym c.as_slice-2.ensures.value) c.in-Ok.ensures.led

pub with_operations-requires-clause-shapes : goal.with_operations-requires-clause-shapes
with_operations-requires-clause-shapes g c =
    let m = c.args.graph.now in
    subst (AreValueShapes m (id_of_number m c.args.service)) (sym c.as_slice-3.ensures.value) c.in-Ok-service_table.ensures.shapes

pub returns-in-Ok-with_operations : goal.returns-in-Ok-with_operations
returns-in-Ok-with_operations g c =
    let m = c.args.graph.now in
    service_seen m (id_of_number m c.args.service) g.P.Patterns.test _ _ c.requires.service c.in-Ok-service_table.tabled.shapes.items
    c.requires.ready
    c.in-Ok-service_table.tabled.table c.in-Ok-service_table.ensures.table c.in-Ok-with_operations.made
    (subst (λ ks. IsServiceFrom m (id_of_number m c.args.service) ks c.in-Ok-service_table.tabled.table c.in-Ok-with_operations.made)
    c.as_slice-3.ensures.value c.in-Ok-with_operations.ensures)

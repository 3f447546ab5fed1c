use Rattle.std.proofs.Common.{subst, sym}
use Rattle.sm_model.specs.Reaching.{id_of_number}
use Rattle.sm_service.proofs.TablesOfService.{refused_of_service, service_tabled}
use Rattle.sm_service.proofs.ValuesMarked.{shapes_told}
use Rattle.sm_service.specs.steps.ServiceTables.{AreValueShapes}
use Rattle.sm_service.proofs.table.service_table.Goals as goal

pub table_of_shapes-requires-clause-shapes : goal.table_of_shapes-requires-clause-shapes
table_of_shapes-requires-clause-shapes g c =
    let m = c.args.graph.now in
    let s = id_of_number m c.args.service in
    subst (AreValueShapes m s) (sym c.as_slice.ensures.value)
    (shapes_told m c.args.service c.args.marks.now c.requires.marks c.in-Ok.shapes.items c.in-Ok.ensures.numbers c.in-Ok.ensures.shapes)

pub returns-in-Ok-table_of_shapes : goal.returns-in-Ok-table_of_shapes
returns-in-Ok-table_of_shapes g c =
    let m = c.args.graph.now in
    let s = id_of_number m c.args.service in
    service_tabled m s c.as_slice.result.now g.P.Patterns.test _ _
    (record { table = c.in-Ok-table_of_shapes.table; shapes = c.in-Ok.shapes }) (sym c.as_slice.ensures.value)
    (subst (AreValueShapes m s) (sym c.as_slice.ensures.value)
    (shapes_told m c.args.service c.args.marks.now c.requires.marks c.in-Ok.shapes.items c.in-Ok.ensures.numbers c.in-Ok.ensures.shapes))
    c.in-Ok-table_of_shapes.ensures

pub returns-in-Err-table_of_shapes : goal.returns-in-Err-table_of_shapes
returns-in-Err-table_of_shapes g c =
    refused_of_service c.args.graph.now (id_of_number c.args.graph.now c.args.service) c.as_slice.result.now g.P.Patterns.test _ _
    c.in-Err-table_of_shapes.refusal c.in-Err-table_of_shapes.ensures

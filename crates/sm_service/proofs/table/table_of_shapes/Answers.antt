use Rattle.sm_model.specs.Reaching.{id_of_number}
use Rattle.sm_shapes.specs.TableView.{table_data}
use Rattle.sm_service.proofs.TablesOfService.{bound_told, left_told, refused_too}
use Rattle.sm_service.proofs.table.table_of_shapes.Goals as goal

pub returns-in-Err : goal.returns-in-Err
returns-in-Err g c =
    let m = c.args.graph.now in
    refused_too m (id_of_number m c.args.service) c.requires.service c.requires.ready c.args.shapes.now c.requires.shapes
    g.P.Patterns.test _ _ c.in-Err.refusal c.in-Err.ensures

pub returns-in-Ok-bound_table : goal.returns-in-Ok-bound_table
returns-in-Ok-bound_table g c =
    let m = c.args.graph.now in
    bound_told m (id_of_number m c.args.service) c.requires.service c.requires.ready c.args.shapes.now c.requires.shapes
    g.P.Patterns.test _ _ (table_data c.in-Ok.table) c.in-Ok.ensures (table_data c.in-Ok-bound_table.table) c.in-Ok-bound_table.ensures

pub returns-in-Err-bound_table : goal.returns-in-Err-bound_table
returns-in-Err-bound_table g c =
    let m = c.args.graph.now in
    left_told m (id_of_number m c.args.service) c.requires.service c.requires.ready c.args.shapes.now c.requires.shapes
    g.P.Patterns.test _ _ (table_data c.in-Ok.table) c.in-Ok.ensures

use Rattle.sm_model.specs.Reaching.{id_of_number}
use Rattle.sm_service.proofs.TablesOfService.{refused_roots, roots_sound, table_told}
use Rattle.sm_service.proofs.table.plain_table.Goals as goal

pub compile_roots-requires-clause-sound : goal.compile_roots-requires-clause-sound
compile_roots-requires-clause-sound g c =
    roots_sound c.args.graph.now (id_of_number c.args.graph.now c.args.service) c.requires.service c.requires.ready c.args.shapes.now
    c.requires.shapes

pub returns-in-Ok : goal.returns-in-Ok
returns-in-Ok g c =
    let m = c.args.graph.now in
    table_told m (id_of_number m c.args.service) c.requires.service c.requires.ready c.args.shapes.now c.requires.shapes
    g.P.Patterns.test _ _ c.in-Ok.tabled c.in-Ok.ensures

pub returns-in-Err : goal.returns-in-Err
returns-in-Err g c =
    let m = c.args.graph.now in
    refused_roots m (id_of_number m c.args.service) c.requires.service c.requires.ready c.args.shapes.now c.requires.shapes
    g.P.Patterns.test _ _ c.in-Err.refusal c.refusal_of.result c.refusal_of.ensures c.in-Err.ensures

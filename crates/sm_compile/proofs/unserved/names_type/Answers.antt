use Rattle.std.proofs.Common.{sym, ◌∙◌}
use Rattle.sm_model.specs.GraphView.{maps_of}
use Rattle.sm_model.specs.Reaching.{id_of_number}
use Rattle.sm_model.proofs.Worklist.{apart}
use Rattle.sm_compile.proofs.UnservedTold.{names_told}
use Rattle.sm_compile.proofs.unserved.names_type.Goals as goal

pub returns-else-is_type_name : goal.returns-else-is_type_name
returns-else-is_type_name c =
    let g = c.args.graph.now in
    names_told (maps_of g) (id_of_number g c.args.shape) (id_of_number g c.args.member) c.in-Some.name.now c.json_name.result.now
    c.is_type_name-else-is_type_name.result c.in-Some.ensures c.json_name.ensures
    (λ same. apart (sym c.if-is_type_name.false ∙ c.is_type_name.ensures.1 same)) c.is_type_name-else-is_type_name.ensures

use Rattle.sm_ast.proofs.IdTests.{parsed_passes, no_id_fails}
use Rattle.sm_ast.proofs.id.is_shape_id.Goals as goal

pub returns-in-Ok : goal.returns-in-Ok
returns-in-Ok c = parsed_passes c.args.text.now _ c.in-Ok.ensures

pub returns-in-Err : goal.returns-in-Err
returns-in-Err c = no_id_fails c.args.text.now _ c.in-Err.ensures

use Rattle.sm_again.proofs.GraphLoads.{ast_loads}
use Rattle.sm_again.proofs.laws.ast_loads.Goals as goal

pub returns : goal.returns
returns c = ast_loads c.written_is_json.ensures c.written_says.ensures c.written_spells.ensures c.formed_files.ensures

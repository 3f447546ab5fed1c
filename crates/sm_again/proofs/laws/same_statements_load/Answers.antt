use Rattle.sm_again.proofs.SameLoads.{same_load}
use Rattle.sm_again.proofs.laws.same_statements_load.Goals as goal

pub returns : goal.returns
returns c = same_load c.formed_files.ensures c.one_file_or_several.ensures

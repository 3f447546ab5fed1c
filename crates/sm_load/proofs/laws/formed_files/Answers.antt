use Rattle.sm_load.proofs.OneModelFile.{files_formed}
use Rattle.sm_load.proofs.laws.formed_files.Goals as goal

pub returns : goal.returns
returns c = files_formed

use Rattle.sm_transform.proofs.RenamedBack.{renamed_back}
use Rattle.sm_transform.proofs.laws.renamed_back.Goals as goal

pub returns : goal.returns
returns c = renamed_back

use Rattle.sm_load.proofs.OneModelLoaded.{load_same}
use Rattle.sm_load.proofs.laws.one_load.Goals as goal

pub returns : goal.returns
returns c = load_same

use Rattle.sm_codec.proofs.FilledTables.{filled_is_shaped}
use Rattle.sm_codec.proofs.laws.filled_is_shaped.Goals as goal

pub returns : goal.returns
returns c = filled_is_shaped

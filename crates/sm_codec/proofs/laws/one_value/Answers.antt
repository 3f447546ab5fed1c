use Rattle.sm_codec.proofs.ReadValues.{one_value}
use Rattle.sm_codec.proofs.laws.one_value.Goals as goal

pub returns : goal.returns
returns c = one_value

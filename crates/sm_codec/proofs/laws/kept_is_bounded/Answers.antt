use Rattle.sm_codec.proofs.Bounded.{kept_is_bounded}
use Rattle.sm_codec.proofs.laws.kept_is_bounded.Goals as goal

pub returns : goal.returns
returns c = kept_is_bounded

use Rattle.sm_transform.proofs.OneChange.{one_changed}
use Rattle.sm_transform.proofs.laws.one_changed.Goals as goal

pub returns : goal.returns
returns c = one_changed

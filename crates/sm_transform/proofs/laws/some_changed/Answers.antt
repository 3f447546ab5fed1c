use Rattle.sm_transform.proofs.SomeChange.{some_changed}
use Rattle.sm_transform.proofs.laws.some_changed.Goals as goal

pub returns : goal.returns
returns c = some_changed

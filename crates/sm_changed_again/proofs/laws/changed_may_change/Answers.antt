use Rattle.sm_changed_again.proofs.WrittenChanges.{changed_may_change}
use Rattle.sm_changed_again.proofs.laws.changed_may_change.Goals as goal

pub returns : goal.returns
returns c = changed_may_change

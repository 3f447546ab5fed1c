use Rattle.sm_value_rules.proofs.SameFaults.{same_faults}
use Rattle.sm_value_rules.proofs.laws.same_faults.Goals as goal

-- src/laws.rt
pub returns : goal.returns
returns c = same_faults

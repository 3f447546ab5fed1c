use Rattle.sm_value_rules.proofs.SameFaults.{faults_by_each}
use Rattle.sm_value_rules.proofs.laws.faults_by_each.Goals as goal

-- src/laws.rt
pub returns : goal.returns
returns c = faults_by_each

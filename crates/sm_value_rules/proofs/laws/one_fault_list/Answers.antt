use Rattle.sm_value_rules.proofs.SameFaults.{one_fault_list}
use Rattle.sm_value_rules.proofs.laws.one_fault_list.Goals as goal

-- src/laws.rt
pub returns : goal.returns
returns c = one_fault_list

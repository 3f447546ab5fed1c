use Rattle.sm_codec.proofs.ReadValues.{value_or_fault}
use Rattle.sm_codec.proofs.laws.value_or_fault.Goals as goal

pub returns : goal.returns
returns c = value_or_fault

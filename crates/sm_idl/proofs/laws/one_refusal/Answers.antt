use Rattle.sm_idl.proofs.IdlAnswers.{one_refusal}
use Rattle.sm_idl.proofs.laws.one_refusal.Goals as goal

pub returns : goal.returns
returns c = one_refusal

use Rattle.sm_lex.proofs.OneReading.{one_refusal}
use Rattle.sm_lex.proofs.laws.one_refusal.Goals as goal

pub returns : goal.returns
returns c = one_refusal

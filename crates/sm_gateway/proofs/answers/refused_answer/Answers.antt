use Rattle.sm_gateway.proofs.RefusalsSaid.{refusal_told}
use Rattle.sm_gateway.proofs.answers.refused_answer.Goals as goal

pub returns : goal.returns
returns c = refusal_told c.args.refusal.now _ _ _ c.in_ok-line.ensures c.status_of.ensures c.in_ok-answer.ensures

use Rattle.sm_gateway.proofs.RefusalsSaid.{refusal_closed}
use Rattle.sm_gateway.proofs.answers.answer_of.Goals as goal

pub returns : goal.returns
returns c = refusal_closed c.args.refusal.now c.args.close _ _ c.in_ok-answer.ensures c.in_ok-closed.ensures

use Rattle.sm_http.proofs.ClosingSaid.{answers_head_alone}
use Rattle.sm_http.proofs.laws.answers_head_alone.Goals as goal

pub returns : goal.returns
returns c = answers_head_alone

use Rattle.sm_http.proofs.OneFraming.{one_framing}
use Rattle.sm_http.proofs.laws.one_answer.Goals as goal

pub returns : goal.returns
returns c = one_framing

use Rattle.sm_http.proofs.SomeFraming.{some_framing}
use Rattle.sm_http.proofs.laws.some_answer.Goals as goal

pub returns : goal.returns
returns c = some_framing

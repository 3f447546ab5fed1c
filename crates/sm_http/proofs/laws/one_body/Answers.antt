use Rattle.sm_http.proofs.OneBody.{one_body}
use Rattle.sm_http.proofs.laws.one_body.Goals as goal

pub returns : goal.returns
returns c = one_body

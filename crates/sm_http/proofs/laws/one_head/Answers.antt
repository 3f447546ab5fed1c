use Rattle.sm_http.proofs.OneHead.{one_head}
use Rattle.sm_http.proofs.laws.one_head.Goals as goal

pub returns : goal.returns
returns c = one_head

use Rattle.sm_http.proofs.ByItself.{message_by_itself}
use Rattle.sm_http.proofs.laws.message_by_itself.Goals as goal

pub returns : goal.returns
returns c = message_by_itself

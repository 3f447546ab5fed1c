use Rattle.sm_uri.proofs.UriOnce.{one_uri}
use Rattle.sm_uri.proofs.laws.one_uri.Goals as goal

pub returns : goal.returns
returns c = one_uri

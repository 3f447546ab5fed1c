use Rattle.sm_uri.proofs.UriRouted.{routes_by_texts}
use Rattle.sm_uri.proofs.laws.routes_by_texts.Goals as goal

pub returns : goal.returns
returns c = routes_by_texts

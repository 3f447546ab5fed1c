use Rattle.sm_serve.proofs.ServeForms.{one_serve_form}
use Rattle.sm_serve.proofs.laws.one_form.Goals as goal

pub returns : goal.returns
returns c = one_serve_form

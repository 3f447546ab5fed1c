use Rattle.sm_body_command.proofs.BodyReaches.{body_reaches}
use Rattle.sm_body_command.proofs.laws.reached_input.Goals as goal

pub returns : goal.returns
returns c = body_reaches

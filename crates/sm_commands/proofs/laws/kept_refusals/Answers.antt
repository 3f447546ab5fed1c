use Rattle.sm_commands.proofs.QuietRun.{keeps_refusals}
use Rattle.sm_commands.proofs.laws.kept_refusals.Goals as goal

pub returns : goal.returns
returns c = keeps_refusals

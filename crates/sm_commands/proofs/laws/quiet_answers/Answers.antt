use Rattle.sm_commands.proofs.QuietRun.{quiet_answers}
use Rattle.sm_commands.proofs.laws.quiet_answers.Goals as goal

pub returns : goal.returns
returns c = quiet_answers

use Rattle.sm_commands.proofs.Commanded.{input_reached}
use Rattle.sm_commands.proofs.QuietRun.{keeps_input}
use Rattle.sm_commands.proofs.laws.untouched_input.Goals as goal

pub returns-clause-said : goal.returns-clause-said
returns-clause-said c = input_reached

pub returns-clause-runs : goal.returns-clause-runs
returns-clause-runs c = keeps_input

use Rattle.sm_commands.proofs.OneForm.{one_form}
use Rattle.sm_commands.proofs.laws.one_form.Goals as goal

pub returns : goal.returns
returns c = one_form

use Rattle.sm_time.proofs.OneReading.{one_form}
use Rattle.sm_time.proofs.laws.one_form.Goals as goal

pub returns : goal.returns
returns c = one_form

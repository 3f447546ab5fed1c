use Rattle.sm_time.proofs.OneReading.{one_reading}
use Rattle.sm_time.proofs.laws.one_reading.Goals as goal

pub returns : goal.returns
returns c = one_reading

use Rattle.sm_ids.proofs.Spellings.{one_id}
use Rattle.sm_ids.proofs.laws.one_reading.Goals as goal

pub returns : goal.returns
returns c = one_id

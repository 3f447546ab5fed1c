use Rattle.sm_schema.proofs.AllPlaces.{valid_is_spelled}
use Rattle.sm_schema.proofs.laws.valid_is_spelled.Goals as goal

pub returns : goal.returns
returns c = valid_is_spelled

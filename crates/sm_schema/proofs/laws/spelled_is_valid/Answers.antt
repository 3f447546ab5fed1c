use Rattle.sm_schema.proofs.AllPlaces.{spelled_is_valid}
use Rattle.sm_schema.proofs.laws.spelled_is_valid.Goals as goal

pub returns : goal.returns
returns c = spelled_is_valid

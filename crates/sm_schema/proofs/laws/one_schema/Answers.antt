use Rattle.sm_schema.proofs.AllPlaces.{one_schema}
use Rattle.sm_schema.proofs.laws.one_schema.Goals as goal

pub returns : goal.returns
returns c = one_schema

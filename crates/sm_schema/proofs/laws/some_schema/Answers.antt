use Rattle.sm_schema.proofs.PlacesEnd.{some_schema}
use Rattle.sm_schema.proofs.laws.some_schema.Goals as goal

pub returns : goal.returns
returns c = some_schema

use Rattle.sm_schema.proofs.NotesHold.{some_noted_schema}
use Rattle.sm_schema.proofs.PlacesEnd.{some_schema}
use Rattle.sm_schema.proofs.laws.some_noted_schema.Goals as goal

pub returns : goal.returns
returns c = some_noted_schema some_schema

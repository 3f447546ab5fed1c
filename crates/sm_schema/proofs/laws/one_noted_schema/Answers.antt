use Rattle.sm_schema.proofs.NotesHold.{one_noted_schema}
use Rattle.sm_schema.proofs.laws.one_noted_schema.Goals as goal

pub returns : goal.returns
returns c = one_noted_schema

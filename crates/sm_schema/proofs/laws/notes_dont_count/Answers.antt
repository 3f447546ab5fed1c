use Rattle.sm_schema.proofs.NotesHold.{notes_dont_count}
use Rattle.sm_schema.proofs.laws.notes_dont_count.Goals as goal

pub returns : goal.returns
returns c = notes_dont_count

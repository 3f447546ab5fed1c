use Rattle.sm_json.proofs.Completed.{none_yet}
use Rattle.sm_json.proofs.laws.no_event_yet.Goals as goal

pub returns : goal.returns
returns c = none_yet

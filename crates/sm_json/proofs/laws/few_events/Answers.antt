use Rattle.sm_json.proofs.EventCounts.{few_events, has_few_events}
use Rattle.sm_json.proofs.laws.few_events.Goals as goal

pub returns : goal.returns
returns c = record { text = few_events; begun = has_few_events }

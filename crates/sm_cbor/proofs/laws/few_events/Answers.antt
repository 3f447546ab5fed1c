use Rattle.sm_cbor.proofs.FewEvents.{has_few_events}
use Rattle.sm_cbor.proofs.laws.few_events.Goals as goal

pub returns : goal.returns
returns c = has_few_events

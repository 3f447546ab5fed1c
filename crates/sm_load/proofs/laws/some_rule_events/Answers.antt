use Rattle.sm_load.proofs.SomeRuleEvents as some
use Rattle.sm_load.proofs.laws.some_rule_events.Goals as goal

pub returns : goal.returns
returns c = some.some_rule_events

use Rattle.sm_load.proofs.OneRuleList as lists
use Rattle.sm_load.proofs.laws.one_list_of_rule_events.Goals as goal

pub returns : goal.returns
returns c = lists.one_list

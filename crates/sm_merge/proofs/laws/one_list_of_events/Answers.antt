use Rattle.sm_merge.proofs.OneList as lists
use Rattle.sm_merge.proofs.laws.one_list_of_events.Goals as goal

pub returns : goal.returns
returns c = lists.one_list

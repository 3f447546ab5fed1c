use Rattle.sm_json.proofs.PrefixRuns.{has_one_completion, goes_further}
use Rattle.sm_json.proofs.laws.one_completion.Goals as goal

pub returns : goal.returns
returns c = record { one = has_one_completion; further = goes_further }

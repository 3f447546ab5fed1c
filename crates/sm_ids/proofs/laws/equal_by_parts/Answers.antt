use Rattle.sm_ids.proofs.Spellings.{printed_once}
use Rattle.sm_ids.proofs.laws.equal_by_parts.Goals as goal

pub returns : goal.returns
returns c = printed_once

use Rattle.sm_ids.proofs.Spellings.{printed_alone}
use Rattle.sm_ids.proofs.laws.printed_reads_back.Goals as goal

pub returns : goal.returns
returns c = printed_alone

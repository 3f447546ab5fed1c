use Rattle.sm_compile.proofs.OneTable.{one_seen}
use Rattle.sm_compile.proofs.laws.one_table.Goals as goal

-- src/laws.rt:5:1
pub returns : goal.returns
returns c = one_seen

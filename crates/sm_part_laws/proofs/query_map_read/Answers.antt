use Rattle.sm_part_laws.proofs.KeyedAgain.{query_map_again}
use Rattle.sm_part_laws.proofs.query_map_read.Goals as goal

pub returns : goal.returns
returns c = query_map_again

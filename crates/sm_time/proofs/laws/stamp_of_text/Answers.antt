use Rattle.sm_time.proofs.StampTold as proof
use Rattle.sm_time.proofs.laws.stamp_of_text.Goals as goal

pub returns : goal.returns
returns c = proof.stamp_told

use Rattle.sm_again.proofs.WrittenMerges as lemma
use Rattle.sm_again.proofs.written_again.Goals as goal

pub returns : goal.returns
returns c = lemma.written_again

use Rattle.sm_again.proofs.WrittenTexts as lemma
use Rattle.sm_again.proofs.read_merges.Goals as goal

pub returns : goal.returns
returns c = lemma.read_merges

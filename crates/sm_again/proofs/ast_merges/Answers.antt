use Rattle.sm_again.proofs.AstMerges as lemma
use Rattle.sm_again.proofs.ast_merges.Goals as goal

pub returns : goal.returns
returns c = lemma.ast_merges

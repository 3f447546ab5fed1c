use Rattle.sm_again.proofs.WrittenTexts as lemma
use Rattle.sm_again.proofs.written_texts.Goals as goal

pub returns : goal.returns
returns c = lemma.written_texts_law

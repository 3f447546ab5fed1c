use Rattle.sm_examples.proofs.EntriesRead as proof
use Rattle.sm_examples.proofs.laws.entries_fit.Goals as goal

pub returns : goal.returns
returns c = proof.entries_fit

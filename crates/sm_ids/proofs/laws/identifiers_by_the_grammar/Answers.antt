use Rattle.sm_ids.proofs.Grammar.{identifiers_are}
use Rattle.sm_ids.proofs.laws.identifiers_by_the_grammar.Goals as goal

pub returns : goal.returns
returns c = identifiers_are

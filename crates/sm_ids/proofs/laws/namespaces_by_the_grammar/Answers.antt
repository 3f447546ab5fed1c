use Rattle.sm_ids.proofs.Grammar.{namespaces_are}
use Rattle.sm_ids.proofs.laws.namespaces_by_the_grammar.Goals as goal

pub returns : goal.returns
returns c = namespaces_are

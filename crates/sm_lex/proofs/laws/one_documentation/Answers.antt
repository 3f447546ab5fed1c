use Rattle.sm_lex.proofs.DocTexts.{one_documentation}
use Rattle.sm_lex.proofs.laws.one_documentation.Goals as goal

pub returns : goal.returns
returns c = one_documentation

use Rattle.sm_http.proofs.ClosingSaid.{says_it_closes, keeps_other_fields}
use Rattle.sm_http.proofs.laws.says_it_closes.Goals as goal

pub returns-clause-says : goal.returns-clause-says
returns-clause-says c = says_it_closes

pub returns-clause-others : goal.returns-clause-others
returns-clause-others c = keeps_other_fields

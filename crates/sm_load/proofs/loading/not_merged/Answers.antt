use Rattle.std.proofs.Common.{Err, subst}
use Rattle.sm_merge.specs.Answers.{MergesTo}
use Rattle.sm_load.proofs.loading.not_merged.Goals as goal

pub returns-in-Limit : goal.returns-in-Limit
returns-in-Limit c = λ said merges. subst (λ r. MergesTo said (Err r)) c.in-Limit.is merges

pub returns-in-Rejected : goal.returns-in-Rejected
returns-in-Rejected c = λ said merges. subst (λ r. MergesTo said (Err r)) c.in-Rejected.is merges

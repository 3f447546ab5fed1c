use Rattle.sm_rules.proofs.AllRules.{each_listed}
use Rattle.sm_rules.proofs.rule.Rule.all.Goals as goal

pub returns-clause-every : goal.returns-clause-every
returns-clause-every c = λ rule. each_listed rule

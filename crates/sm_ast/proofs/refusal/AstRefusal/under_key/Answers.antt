use Rattle.std.proofs.Common.{◌∙◌, subst}
use Rattle.sm_tree.specs.declared.path.Step.TheVariants.{Key}
use Rattle.sm_ast.specs.Answers.{Tells}
use Rattle.sm_ast.specs.Faults.{seen_from}
use Rattle.sm_ast.proofs.refusal.AstRefusal.under_key.Goals as goal

pub returns-in-Ok : goal.returns-in-Ok
returns-in-Ok c = λ found told. subst (λ t. Tells (seen_from (Key t) found) c.seen_from.result)
    (c.in-Ok.ensures.bytes ∙ c.as_str.ensures.bytes) (c.seen_from.ensures found told)

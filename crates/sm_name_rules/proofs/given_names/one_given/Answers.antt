use Rattle.std.proofs.Common.{None, refl, subst, ◌∙◌}
use Rattle.sm_name_rules.specs.steps.Renaming.{IsOneGiven}
use Rattle.sm_name_rules.specs.steps.NameTwins.{IsOneNamed}
use Rattle.sm_name_rules.proofs.given_names.one_given.Goals as goal

pub returns-in_ok-key-in-Some : goal.returns-in_ok-key-in-Some
returns-in_ok-key-in-Some c =
    subst (λ t. IsOneGiven c.args.graph.now c.args.names.now.inside.now t c.one_named.result) c.in-Some.ensures
    (subst (λ k. IsOneNamed c.args.graph.now c.args.names.now.inside.now k c.one_named.result)
    (c.as_str.ensures.bytes ∙ c.in_ok-key-in-Some.ensures) (c.one_named.ensures c.args.graph.now c.requires.names))

pub returns-in-None : goal.returns-in-None
returns-in-None c =
    subst (λ t. IsOneGiven c.args.graph.now c.args.names.now.inside.now t None) c.in-None.ensures refl

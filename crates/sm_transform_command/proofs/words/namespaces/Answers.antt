use Rattle.std.proofs.Common.{true≢false, sym, ◌∙◌}
use Rattle.sm_transform_command.proofs.TransformForms.{first_is_none, second_is_none}
use Rattle.sm_transform_command.proofs.words.namespaces.Goals as goal

pub returns-then-not-is_namespace : goal.returns-then-not-is_namespace
returns-then-not-is_namespace c =
    first_is_none c.args.argument.now c.in-Some.from.now c.in-Some.to.now c.in-Some.ensures
    (λ is. true≢false (sym (c.is_namespace.ensures.1 is) ∙ c.if-not-is_namespace.true))

pub returns-then-not-is_namespace-2 : goal.returns-then-not-is_namespace-2
returns-then-not-is_namespace-2 c =
    second_is_none c.args.argument.now c.in-Some.from.now c.in-Some.to.now c.in-Some.ensures
    (λ is. true≢false (sym (c.is_namespace-2.ensures.1 is) ∙ c.if-not-is_namespace-2.true))

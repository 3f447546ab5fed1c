use Rattle.std.proofs.Common.{subst}
use Rattle.sm_transform_command.specs.TransformForm.{ChangeAsked, SaysChange}
use Rattle.sm_transform_command.proofs.TransformForms.{no_change_said, not_over}
use Rattle.sm_transform_command.proofs.words.transform_words.Goals as goal

pub returns-in_default : goal.returns-in_default
returns-in_default c = not_over c.args.words.now c.in_default.ensures

pub returns-in-None : goal.returns-in-None
returns-in-None c =
    no_change_said c.args.words.now c.in-Some.before.now c.in-Some-last_and_rest.models.now c.in-Some.argument.now
    c.in-Some-last_and_rest.verb.now c.in-Some.ensures c.in-Some-last_and_rest.ensures
    (subst (λ verb. (asked : ChangeAsked) → SaysChange verb c.in-Some.argument.now asked → ⊥) c.as_str.ensures.bytes
    (subst (λ argument. (asked : ChangeAsked) → SaysChange c.as_str.result.now argument asked → ⊥) c.as_str-2.ensures.bytes
    c.in-None.ensures))

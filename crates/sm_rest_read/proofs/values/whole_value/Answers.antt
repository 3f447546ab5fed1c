use Rattle.std.proofs.Common.{◌≡◌, subst}
use Rattle.std.specs.Prelude.{IfOk}
use Rattle.sm_rest.specs.messages.Heads.{is_empty}
use Rattle.sm_rest.specs.bind.BindingsView.{parts_data}
use Rattle.sm_rest.specs.bind.BoundView.{bound_of}
use Rattle.sm_rest.specs.rest_heads.BodyParts.{rest_use}
use Rattle.sm_rest_read.specs.steps.Contents.{JoinsAt}
use Rattle.sm_rest_read.proofs.values.whole_value.Goals as goal

pub returns-in-Ok-clause-joins : goal.returns-in-Ok-clause-joins
returns-in-Ok-clause-joins g c = λ given is.
    let b = bound_of c.args.place.now in
    let same = subst (λ r. IfOk r (λ all. parts_data all ≡ given)) c.in-Ok.is is in
    subst (λ p. JoinsAt b g.P.Patterns.test p c.args.bytes c.joined_value.result) same
    (c.joined_value.ensures.joins (rest_use b (is_empty c.args.bytes)) c.args.bytes c.whole_content-content.ensures.content)

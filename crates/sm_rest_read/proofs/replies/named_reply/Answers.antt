use Rattle.std.proofs.Common.{◌≡◌, refl, rules, subst}
use Rattle.std.specs.Prelude.{Err, Ok}
use Rattle.sm_rest.specs.service.ServiceView.{service_data}
use Rattle.sm_rest.specs.messages.Goals.{the_error}
use Rattle.sm_rest.specs.messages.HeadAnswers.{to_named_error}
use Rattle.sm_rest_read.specs.steps.Contents.{NamesPlace}
use Rattle.sm_rest_read.proofs.RestAnswered.{named_role, naming_answers, reply_answers}
use Rattle.sm_rest_read.proofs.replies.named_reply.Goals as goal

pub error_reply-requires-clause-goal : goal.error_reply-requires-clause-goal
error_reply-requires-clause-goal g c =
    (c.requires.served.within, named_role (service_data c.args.service.now) c.args.operation c.in-Ok.error c.as_slice.result.now c.in-Ok.ensures)

pub returns-in-Ok-clause-reply : goal.returns-in-Ok-clause-reply
returns-in-Ok-clause-reply g c =
    let s = service_data c.args.service.now in
    let o = c.args.operation in
    let same : c.as_slice.result.now ≡ c.args.body = search rules in
    let names = subst (λ b. NamesPlace s o b (Ok c.in-Ok.error)) same c.in-Ok.ensures in
    reply_answers s g.P.Patterns.test (to_named_error o) c.args.head.now c.args.body o (the_error c.in-Ok.error) c.error_reply.result
    (c.in-Ok.error, names, refl) c.error_reply.ensures.reply

pub returns-in-Err-clause-reply : goal.returns-in-Err-clause-reply
returns-in-Err-clause-reply g c =
    let s = service_data c.args.service.now in
    let o = c.args.operation in
    let same : c.as_slice.result.now ≡ c.args.body = search rules in
    naming_answers s g.P.Patterns.test o c.args.head.now c.args.body c.in-Err.refusal
    (subst (λ b. NamesPlace s o b (Err c.in-Err.refusal)) same c.in-Err.ensures)

use Rattle.std.proofs.Common.{◌≡◌, refl, subst}
use Rattle.sm_rest.specs.service.ServiceView.{service_data}
use Rattle.sm_rest.specs.messages.Answers.{AnswersResponse, AtHead, RefusedAs}
use Rattle.sm_rest.specs.messages.Goals.{goal_of, the_error, the_output}
use Rattle.sm_rest.specs.messages.HeadAnswers.{refused_at_head, to_goal}
use Rattle.sm_rest.specs.messages.Judging.{response_address, told_answer}
use Rattle.sm_rest.specs.messages.MessageAnswers.{the_refusal}
use Rattle.sm_rest.specs.messages.Names.{told_by_head}
use Rattle.sm_rest.specs.messages.declared.judging.ResponseAddress.TheVariants.{Error, Named, Output}
use Rattle.sm_rest.proofs.messages.BodiesBegun.{has_address, same_there}
use Rattle.sm_rest.proofs.messages.HeadsJudged.{response_of}
use Rattle.sm_rest.proofs.messages.TreeAnswered.{none_refused}
use Rattle.sm_rest.specs.RestForm.{rest_form}
use Rattle.sm_rest_read.specs.steps.RestAnswers.{RestAnswers}
use Rattle.sm_rest_read.proofs.RestAnswered.{reply_answers}
use Rattle.sm_rest_read.proofs.replies.held_reply.Goals as goal

pub error_reply-requires-clause-goal : goal.error_reply-requires-clause-goal
error_reply-requires-clause-goal g c =
    let s = service_data c.args.service.now in
    let head = c.args.message.head in
    let o = c.args.operation in
    let e = c.in-Ok-Error.error in
    let first : told_answer s head (told_by_head head) o ≡ response_address o c.in-Ok-Error.field-0 =
    subst (λ t. told_answer s head t o ≡ response_address o c.in-Ok-Error.field-0) c.told_by_head-told.ensures c.in-Ok-Error.ensures
    in
    let told : told_answer s head (told_by_head head) o ≡ response_address o (Error e) =
    subst (λ r. told_answer s head (told_by_head head) o ≡ response_address o r) c.in-Ok-Error.field-0-is first
    in
    (c.requires.served.within, has_address s o (Error e) (response_of rest_form s head o (to_goal (goal_of o (the_error e))) told))

pub returns-in-Ok-Output-clause-reply : goal.returns-in-Ok-Output-clause-reply
returns-in-Ok-Output-clause-reply g c there at =
    let s = service_data c.args.service.now in
    let head = c.args.message.head in
    let o = c.args.operation in
    let first : told_answer s head (told_by_head head) o ≡ response_address o c.in-Ok-Output.field-0 =
    subst (λ t. told_answer s head t o ≡ response_address o c.in-Ok-Output.field-0) c.told_by_head-told.ensures c.in-Ok-Output.ensures
    in
    let told : told_answer s head (told_by_head head) o ≡ response_address o Output =
    subst (λ r. told_answer s head (told_by_head head) o ≡ response_address o r) c.in-Ok-Output.field-0-is first
    in
    let answers = reply_answers s g.P.Patterns.test (to_goal (goal_of o the_output)) head c.args.message.body o the_output
    c.output_reply.result refl c.output_reply.ensures.reply in
    subst (λ t. AnswersResponse o (RestAnswers s g.P.Patterns.test t head c.args.message.body) c.output_reply.result)
    (same_there (told_answer s head (told_by_head head) o) o Output there told at) answers

pub returns-in-Ok-Error-clause-reply : goal.returns-in-Ok-Error-clause-reply
returns-in-Ok-Error-clause-reply g c there at =
    let s = service_data c.args.service.now in
    let head = c.args.message.head in
    let o = c.args.operation in
    let e = c.in-Ok-Error.error in
    let first : told_answer s head (told_by_head head) o ≡ response_address o c.in-Ok-Error.field-0 =
    subst (λ t. told_answer s head t o ≡ response_address o c.in-Ok-Error.field-0) c.told_by_head-told.ensures c.in-Ok-Error.ensures
    in
    let told : told_answer s head (told_by_head head) o ≡ response_address o (Error e) =
    subst (λ r. told_answer s head (told_by_head head) o ≡ response_address o r) c.in-Ok-Error.field-0-is first
    in
    let answers = reply_answers s g.P.Patterns.test (to_goal (goal_of o (the_error e))) head c.args.message.body o (the_error e)
    c.error_reply.result refl c.error_reply.ensures.reply in
    subst (λ t. AnswersResponse o (RestAnswers s g.P.Patterns.test t head c.args.message.body) c.error_reply.result)
    (same_there (told_answer s head (told_by_head head) o) o (Error e) there told at) answers

pub returns-in-Ok-Named-clause-reply : goal.returns-in-Ok-Named-clause-reply
returns-in-Ok-Named-clause-reply g c there at =
    let s = service_data c.args.service.now in
    let head = c.args.message.head in
    let o = c.args.operation in
    let first : told_answer s head (told_by_head head) o ≡ response_address o c.in-Ok-Named.field-0 =
    subst (λ t. told_answer s head t o ≡ response_address o c.in-Ok-Named.field-0) c.told_by_head-told.ensures c.in-Ok-Named.ensures
    in
    let told : told_answer s head (told_by_head head) o ≡ response_address o Named =
    subst (λ r. told_answer s head (told_by_head head) o ≡ response_address o r) c.in-Ok-Named.field-0-is first
    in
    subst (λ t. AnswersResponse o (RestAnswers s g.P.Patterns.test t head c.args.message.body) c.named_reply.result)
    (same_there (told_answer s head (told_by_head head) o) o Named there told at) c.named_reply.ensures.reply

pub returns-clause-reply : goal.returns-clause-reply
returns-clause-reply g c there at =
    let s = service_data c.args.service.now in
    let head = c.args.message.head in
    let o = c.args.operation in
    let refused : RefusedAs (AtHead (λ r. told_answer s head (told_by_head head) o ≡ refused_at_head r)) c.in-Err.refusal =
    subst (λ t. RefusedAs (AtHead (λ r. told_answer s head t o ≡ refused_at_head r)) c.in-Err.refusal) c.told_by_head-told.ensures
    c.in-Err.ensures
    in
    none_refused (λ r. RestAnswers s g.P.Patterns.test there head c.args.message.body (the_refusal r))
    (told_answer s head (told_by_head head) o) there c.in-Err.refusal at refused

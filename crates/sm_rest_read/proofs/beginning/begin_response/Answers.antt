use Rattle.std.proofs.Common.{◌≡◌, subst}
use Rattle.sm_rest.specs.service.ServiceView.{service_data}
use Rattle.sm_rest.specs.messages.Answers.{AtHead, RefusedAs}
use Rattle.sm_rest.specs.messages.Goals.{a_response, goal_of, the_error, the_output}
use Rattle.sm_rest.specs.messages.HeadAnswers.{IsJudged, addressed, refused_at_head, to_goal, to_named_error}
use Rattle.sm_rest.specs.messages.Judging.{response_address, told_answer}
use Rattle.sm_rest.specs.messages.Names.{told_by_head}
use Rattle.sm_rest.specs.messages.declared.judging.ResponseAddress.TheVariants.{Error, Named, Output}
use Rattle.sm_rest.proofs.messages.BodiesBegun.{has_address}
use Rattle.sm_rest.proofs.messages.HeadsJudged.{response_of}
use Rattle.sm_rest.proofs.messages.TreeAnswered.{head_refused}
use Rattle.sm_rest.specs.RestForm.{rest_form}
use Rattle.sm_rest_read.proofs.RestBodies.{begins_as, response_judged}
use Rattle.sm_rest_read.proofs.beginning.begin_response.Goals as goal

pub error_begun-requires-clause-goal : goal.error_begun-requires-clause-goal
error_begun-requires-clause-goal c =
    let s = service_data c.args.service.now in
    let head = c.args.head.now in
    let o = c.args.operation in
    let e = c.in-Ok-Error.error in
    let first : told_answer s head (told_by_head head) o ≡ response_address o c.in-Ok-Error.field-0 =
    subst (λ t. told_answer s head t o ≡ response_address o c.in-Ok-Error.field-0) c.told_by_head-told.ensures c.in-Ok-Error.ensures
    in
    let told : told_answer s head (told_by_head head) o ≡ response_address o (Error e) =
    subst (λ r. told_answer s head (told_by_head head) o ≡ response_address o r) c.in-Ok-Error.field-0-is first
    in
    (c.requires.served.within, has_address s o (Error e) (response_of rest_form s head o (to_goal (goal_of o (the_error e))) told))

pub returns-in-Ok-Output : goal.returns-in-Ok-Output
returns-in-Ok-Output c test =
    let s = service_data c.args.service.now in
    let head = c.args.head.now in
    let o = c.args.operation in
    let first : told_answer s head (told_by_head head) o ≡ response_address o c.in-Ok-Output.field-0 =
    subst (λ t. told_answer s head t o ≡ response_address o c.in-Ok-Output.field-0) c.told_by_head-told.ensures c.in-Ok-Output.ensures
    in
    let told : told_answer s head (told_by_head head) o ≡ response_address o Output =
    subst (λ r. told_answer s head (told_by_head head) o ≡ response_address o r) c.in-Ok-Output.field-0-is first
    in
    begins_as (IsJudged rest_form s (a_response o) head c.args.empty) _ c.output_begun.result
    (c.output_begun.ensures test (response_judged s head c.args.empty o (addressed (to_goal (goal_of o the_output))) told))

pub returns-in-Ok-Error : goal.returns-in-Ok-Error
returns-in-Ok-Error c test =
    let s = service_data c.args.service.now in
    let head = c.args.head.now in
    let o = c.args.operation in
    let e = c.in-Ok-Error.error in
    let first : told_answer s head (told_by_head head) o ≡ response_address o c.in-Ok-Error.field-0 =
    subst (λ t. told_answer s head t o ≡ response_address o c.in-Ok-Error.field-0) c.told_by_head-told.ensures c.in-Ok-Error.ensures
    in
    let told : told_answer s head (told_by_head head) o ≡ response_address o (Error e) =
    subst (λ r. told_answer s head (told_by_head head) o ≡ response_address o r) c.in-Ok-Error.field-0-is first
    in
    begins_as (IsJudged rest_form s (a_response o) head c.args.empty) _ c.error_begun.result
    (c.error_begun.ensures c.args.rest.now test c.args.empty
    (response_judged s head c.args.empty o (addressed (to_goal (goal_of o (the_error e)))) told))

pub returns-in-Ok-Named : goal.returns-in-Ok-Named
returns-in-Ok-Named c test =
    let s = service_data c.args.service.now in
    let head = c.args.head.now in
    let o = c.args.operation in
    let first : told_answer s head (told_by_head head) o ≡ response_address o c.in-Ok-Named.field-0 =
    subst (λ t. told_answer s head t o ≡ response_address o c.in-Ok-Named.field-0) c.told_by_head-told.ensures c.in-Ok-Named.ensures
    in
    let told : told_answer s head (told_by_head head) o ≡ response_address o Named =
    subst (λ r. told_answer s head (told_by_head head) o ≡ response_address o r) c.in-Ok-Named.field-0-is first
    in
    begins_as (IsJudged rest_form s (a_response o) head c.args.empty) _ c.named_begun.result
    (c.named_begun.ensures c.args.rest.now test c.args.empty
    (response_judged s head c.args.empty o (addressed (to_named_error o)) told))

pub returns-in-Err : goal.returns-in-Err
returns-in-Err c test =
    let s = service_data c.args.service.now in
    let head = c.args.head.now in
    let o = c.args.operation in
    let refused : RefusedAs (AtHead (λ r. told_answer s head (told_by_head head) o ≡ refused_at_head r)) c.in-Err.refusal =
    subst (λ t. RefusedAs (AtHead (λ r. told_answer s head t o ≡ refused_at_head r)) c.in-Err.refusal) c.told_by_head-told.ensures
    c.in-Err.ensures
    in
    head_refused (λ r. told_answer s head (told_by_head head) o ≡ refused_at_head r)
    (λ r. IsJudged rest_form s (a_response o) head c.args.empty (refused_at_head r))
    (λ r at. response_judged s head c.args.empty o (refused_at_head r) at) c.in-Err.refusal refused

use Rattle.std.proofs.Common.{◌≡◌, ap, subst, ◌∙◌}
use Rattle.sm_rest.specs.service.ServiceView.{service_data}
use Rattle.sm_rest.specs.messages.Answers.{AnswersRequest, AtHead, RefusedAs}
use Rattle.sm_rest.specs.messages.Goals.{a_request}
use Rattle.sm_rest.specs.messages.HeadAnswers.{IsJudged, refused_at_head}
use Rattle.sm_rest.specs.messages.Heads.{is_empty}
use Rattle.sm_rest.specs.messages.MessageAnswers.{MessageAnswers}
use Rattle.sm_rest_read.specs.Begun.{RestBegun}
use Rattle.sm_rest.specs.RestForm.{rest_form}
use Rattle.sm_rest_read.proofs.RestBodies.{rest_refused, rest_takes}
use Rattle.sm_rest_read.proofs.reading.read_request.Goals as goal

pub returns-in-Err-clause-answers : goal.returns-in-Err-clause-answers
returns-in-Err-clause-answers g c =
    let s = service_data c.args.service.now in
    let head = c.args.message.now.head in
    let same : c.is_empty-empty.result ≡ is_empty c.args.message.now.body = c.is_empty-empty.ensures ∙ ap is_empty c.as_slice-bytes.ensures in
    rest_refused s g.P.Patterns.test a_request head c.args.message.now.body c.in-Err.refusal
    (subst (λ e. RefusedAs (AtHead (λ r. IsJudged rest_form s a_request head e (refused_at_head r))) c.in-Err.refusal) same
    (c.in-Err.ensures g.P.Patterns.test))

pub piece-requires-clause-takes : goal.piece-requires-clause-takes
piece-requires-clause-takes g c =
    rest_takes c.args.rest.now (service_data c.args.service.now) g.P.Patterns.test a_request c.in-Ok.body c.args.message.now.head
    c.is_empty-empty.result _ (c.in-Ok.ensures g.P.Patterns.test).1

pub finish_request-requires-clause-begun : goal.finish_request-requires-clause-begun
finish_request-requires-clause-begun g c =
    let s = service_data c.args.service.now in
    let head = c.args.message.now.head in
    let bytes = c.as_slice-bytes.result.now in
    let begun = c.in-Ok-piece.ensures.begun a_request head c.is_empty-empty.result _ (c.in-Ok.ensures g.P.Patterns.test).1 in
    let all = subst (λ e. RestBegun c.args.rest.now s g.P.Patterns.test a_request c.piece.new.self head e bytes) c.is_empty-empty.ensures begun in
    (head, bytes, all)

pub returns-in-Ok-piece-clause-answers : goal.returns-in-Ok-piece-clause-answers
returns-in-Ok-piece-clause-answers g c =
    let s = service_data c.args.service.now in
    let head = c.args.message.now.head in
    let bytes = c.as_slice-bytes.result.now in
    let begun = c.in-Ok-piece.ensures.begun a_request head c.is_empty-empty.result _ (c.in-Ok.ensures g.P.Patterns.test).1 in
    let all = subst (λ e. RestBegun c.args.rest.now s g.P.Patterns.test a_request c.piece.new.self head e bytes) c.is_empty-empty.ensures begun in
    subst (λ b. AnswersRequest (MessageAnswers rest_form s g.P.Patterns.test a_request head b) c.finish_request.result) c.as_slice-bytes.ensures
    (c.finish_request.ensures.answers head bytes all)

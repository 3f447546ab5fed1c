use Rattle.std.proofs.Common.{◌≡◌, rules, subst, ◌∙◌}
use Rattle.sm_json.specs.JsonText.{json_syntax}
use Rattle.sm_service.specs.ServiceView.{service_data}
use Rattle.sm_messages.specs.Answers.{AnswersResponse, AtHead, RefusedAs}
use Rattle.sm_messages.specs.HeadAnswers.{refused_at_head}
use Rattle.sm_messages.specs.Judging.{response_address, told_answer}
use Rattle.sm_messages.specs.MessageAnswers.{the_refusal}
use Rattle.sm_messages.specs.Names.{told_by_body, told_by_head}
use Rattle.sm_messages.specs.TreeAnswers.{TreeAnswers, address_of}
use Rattle.sm_messages.specs.TreeBodies.{tree_codec}
use Rattle.sm_messages.proofs.BodiesBegun.{has_address, response_addressed, same_there}
use Rattle.sm_messages.proofs.HeadsJudged.{response_of}
use Rattle.sm_messages.proofs.TreeAnswered.{none_refused}
use Rattle.sm_awsjson.specs.Messages.{aws_convention, aws_form}
use Rattle.sm_awsjson.specs.declared.version.AwsVersion.TheVariants.{V10}
use Rattle.sm_awsjson.proofs.body.held_reply.Goals as goal

pub whole_reply-requires-clause-address : goal.whole_reply-requires-clause-address
whole_reply-requires-clause-address g c =
    let s = service_data c.args.service.now in
    let head = c.args.message.now.head in
    let o = c.args.operation in
    let judged : told_answer s head (told_by_head head) o ≡ response_address o c.in-Ok.there =
    subst (λ t. told_answer s head t o ≡ response_address o c.in-Ok.there) c.told_by_head-told.ensures c.in-Ok.ensures
    in
    has_address s o c.in-Ok.there
    (response_of (aws_form V10) s head o (address_of o c.in-Ok.there) (judged ∙ response_addressed o c.in-Ok.there))

pub returns-in-Ok-clause-reply : goal.returns-in-Ok-clause-reply
returns-in-Ok-clause-reply g c version there at =
    let s = service_data c.args.service.now in
    let head = c.args.message.now.head in
    let o = c.args.operation in
    let judged : told_answer s head (told_by_head head) o ≡ response_address o c.in-Ok.there =
    subst (λ t. told_answer s head t o ≡ response_address o c.in-Ok.there) c.told_by_head-told.ensures c.in-Ok.ensures
    in
    let codec = tree_codec aws_convention s g.P.Patterns.test in
    let same : c.as_slice.result.now ≡ c.args.message.now.body = search rules in
    let whole : AnswersResponse o (TreeAnswers json_syntax codec s told_by_body (address_of o c.in-Ok.there) c.args.message.now.body)
    c.whole_reply.result =
    subst (λ b. AnswersResponse o (TreeAnswers json_syntax codec s told_by_body (address_of o c.in-Ok.there) b) c.whole_reply.result) same
    c.whole_reply.ensures.reply
    in
    subst (λ t. AnswersResponse o (TreeAnswers json_syntax codec s told_by_body t c.args.message.now.body) c.whole_reply.result)
    (same_there (told_answer s head (told_by_head head) o) o c.in-Ok.there there judged at) whole

pub returns-in-Err-clause-reply : goal.returns-in-Err-clause-reply
returns-in-Err-clause-reply g c version there at =
    let s = service_data c.args.service.now in
    let head = c.args.message.now.head in
    let o = c.args.operation in
    let refused : RefusedAs (AtHead (λ r. told_answer s head (told_by_head head) o ≡ refused_at_head r)) c.in-Err.refusal =
    subst (λ t. RefusedAs (AtHead (λ r. told_answer s head t o ≡ refused_at_head r)) c.in-Err.refusal) c.told_by_head-told.ensures
    c.in-Err.ensures
    in
    none_refused (λ r. TreeAnswers json_syntax (tree_codec aws_convention s g.P.Patterns.test) s told_by_body there c.args.message.now.body
    (the_refusal r)) (told_answer s head (told_by_head head) o) there c.in-Err.refusal at refused

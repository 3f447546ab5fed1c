use Rattle.std.proofs.Common.{◌≡◌, rules, subst, ◌∙◌}
use Rattle.std.specs.Prelude.{None, false}
use Rattle.sm_cbor.specs.Refusals.{cbor_syntax}
use Rattle.sm_service.specs.ServiceView.{service_data}
use Rattle.sm_messages.specs.Answers.{AnswersResponse}
use Rattle.sm_messages.specs.Judging.{told_answer}
use Rattle.sm_messages.specs.MessageAnswers.{the_refusal}
use Rattle.sm_messages.specs.TreeAnswers.{TreeAnswers, address_of, told_under}
use Rattle.sm_messages.specs.TreeBodies.{tree_codec}
use Rattle.sm_messages.proofs.BodiesBegun.{has_address, response_addressed, same_there}
use Rattle.sm_messages.proofs.HeadsJudged.{response_of}
use Rattle.sm_messages.proofs.TreeAnswered.{none_refused}
use Rattle.sm_codec.specs.Conventions.{cbor_convention}
use Rattle.sm_rpc.specs.Messages.{rpc_form}
use Rattle.sm_rpc.proofs.body.held_reply.Goals as goal

pub whole_reply-requires-clause-address : goal.whole_reply-requires-clause-address
whole_reply-requires-clause-address g c =
    let s = service_data c.args.service.now in
    let head = c.args.message.now.head in
    let o = c.args.operation in
    has_address s o c.in-Ok.there
    (response_of rpc_form s head o (address_of o c.in-Ok.there) (c.in-Ok.ensures ∙ response_addressed o c.in-Ok.there))

pub returns-in-Ok-clause-reply : goal.returns-in-Ok-clause-reply
returns-in-Ok-clause-reply g c there at =
    let s = service_data c.args.service.now in
    let head = c.args.message.now.head in
    let o = c.args.operation in
    let codec = tree_codec cbor_convention s g.P.Patterns.test in
    let same : c.as_slice.result.now ≡ c.args.message.now.body = search rules in
    let whole : AnswersResponse o (TreeAnswers cbor_syntax codec s (told_under false) (address_of o c.in-Ok.there) c.args.message.now.body)
    c.whole_reply.result =
    subst (λ b. AnswersResponse o (TreeAnswers cbor_syntax codec s (told_under false) (address_of o c.in-Ok.there) b) c.whole_reply.result) same
    c.whole_reply.ensures.reply
    in
    subst (λ t. AnswersResponse o (TreeAnswers cbor_syntax codec s (told_under false) t c.args.message.now.body) c.whole_reply.result)
    (same_there (told_answer s head None o) o c.in-Ok.there there c.in-Ok.ensures at) whole

pub returns-in-Err-clause-reply : goal.returns-in-Err-clause-reply
returns-in-Err-clause-reply g c there at =
    let s = service_data c.args.service.now in
    let head = c.args.message.now.head in
    let o = c.args.operation in
    none_refused (λ r. TreeAnswers cbor_syntax (tree_codec cbor_convention s g.P.Patterns.test) s (told_under false) there c.args.message.now.body
    (the_refusal r)) (told_answer s head None o) there c.in-Err.refusal at c.in-Err.ensures

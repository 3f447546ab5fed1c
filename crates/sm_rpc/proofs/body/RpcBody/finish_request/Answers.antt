use Rattle.std.proofs.Common.{◌≡◌, rules, subst}
use Rattle.std.specs.Prelude.{Err, Ok}
use Rattle.sm_cbor.specs.Refusals.{cbor_syntax}
use Rattle.sm_cbor.specs.Stands.{cbor_source}
use Rattle.sm_service.specs.ServiceView.{service_data}
use Rattle.sm_messages.specs.Answers.{AnswersRequest}
use Rattle.sm_messages.specs.Begun.{FedFor, HeldFor}
use Rattle.sm_messages.specs.Goals.{a_request, goal_of, goal_shape, the_input}
use Rattle.sm_messages.specs.HeadAnswers.{to_goal}
use Rattle.sm_messages.specs.Heads.{is_empty}
use Rattle.sm_messages.specs.TreeAnswers.{TreeAnswers}
use Rattle.sm_messages.specs.TreeBodies.{tree_codec}
use Rattle.sm_messages.proofs.BodiesBegun.{fed_request, held_request}
use Rattle.sm_rpc.specs.Begun.{RpcBegun}
use Rattle.sm_rpc.specs.Heads.{cbor_type}
use Rattle.sm_codec.specs.Conventions.{cbor_convention}
use Rattle.sm_rpc.specs.Messages.{rpc_form}
use Rattle.sm_rpc.proofs.RpcBodies.{rpc_tree_form}
use Rattle.sm_rpc.proofs.body.RpcBody.finish_request.Goals as goal

pub whole_request-requires-clause-number : goal.whole_request-requires-clause-number
whole_request-requires-clause-number g c =
    let (head, bytes, begun) = c.requires.begun in
    let held : HeldFor rpc_form (service_data c.args.service.now) a_request head (is_empty bytes) bytes
    c.in-Held.operation c.in-Held.message =
    subst (λ b. RpcBegun (service_data c.args.service.now) g.P.Patterns.test a_request b head (is_empty bytes)
    bytes) c.in-Held.is begun
    in
    held.within

pub returns-in-Held-clause-answers : goal.returns-in-Held-clause-answers
returns-in-Held-clause-answers g c head bytes begun =
    let s = service_data c.args.service.now in
    let held : HeldFor rpc_form s a_request head (is_empty bytes) bytes c.in-Held.operation c.in-Held.message =
    subst (λ b. RpcBegun s g.P.Patterns.test a_request b head (is_empty bytes) bytes) c.in-Held.is begun
    in
    let same : c.as_slice.result.now ≡ c.in-Held.message.body = search rules in
    held_request rpc_form cbor_convention cbor_type rpc_tree_form c.reads_messages.ensures s g.P.Patterns.test head
    bytes c.in-Held.operation c.in-Held.message c.whole_request.result held
    (subst (λ b. AnswersRequest (TreeAnswers cbor_syntax (tree_codec cbor_convention s g.P.Patterns.test) s rpc_form.body_error
    (to_goal (goal_of c.in-Held.operation the_input)) b) c.whole_request.result) same (c.whole_request.ensures.request rpc_form.body_error))

pub fed_value-requires-clause-fed : goal.fed_value-requires-clause-fed
fed_value-requires-clause-fed g c =
    let (head, bytes, begun) = c.requires.begun in
    let s = service_data c.args.service.now in
    let fed : FedFor _ cbor_source cbor_convention rpc_form s g.P.Patterns.test a_request head (is_empty bytes)
    bytes c.in-Fed.operation c.in-Fed.reader c.in-Fed.decoder =
    subst (λ b. RpcBegun s g.P.Patterns.test a_request b head (is_empty bytes) bytes) c.in-Fed.is begun
    in
    (goal_shape s (goal_of c.in-Fed.operation fed.role), bytes, fed.come)

pub returns-in-Ok-clause-answers : goal.returns-in-Ok-clause-answers
returns-in-Ok-clause-answers g c head bytes begun =
    let s = service_data c.args.service.now in
    let fed : FedFor _ cbor_source cbor_convention rpc_form s g.P.Patterns.test a_request head (is_empty bytes) bytes
    c.in-Fed.operation c.in-Fed.reader c.in-Fed.decoder =
    subst (λ b. RpcBegun s g.P.Patterns.test a_request b head (is_empty bytes) bytes) c.in-Fed.is begun
    in
    fed_request rpc_form cbor_convention cbor_type rpc_tree_form c.reads_messages.ensures s g.P.Patterns.test head
    bytes cbor_source c.in-Fed.operation c.in-Fed.reader c.in-Fed.decoder (Ok c.in-Ok.value) fed
    (λ at full come. c.in-Ok.ensures.value at rpc_form.body_error bytes full come)

pub returns-in-Err-clause-answers : goal.returns-in-Err-clause-answers
returns-in-Err-clause-answers g c head bytes begun =
    let s = service_data c.args.service.now in
    let fed : FedFor _ cbor_source cbor_convention rpc_form s g.P.Patterns.test a_request head (is_empty bytes) bytes
    c.in-Fed.operation c.in-Fed.reader c.in-Fed.decoder =
    subst (λ b. RpcBegun s g.P.Patterns.test a_request b head (is_empty bytes) bytes) c.in-Fed.is begun
    in
    fed_request rpc_form cbor_convention cbor_type rpc_tree_form c.reads_messages.ensures s g.P.Patterns.test head
    bytes cbor_source c.in-Fed.operation c.in-Fed.reader c.in-Fed.decoder (Err c.in-Err.refusal) fed
    (λ at full come. c.in-Err.ensures.value at rpc_form.body_error bytes full come)

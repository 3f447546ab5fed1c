use Rattle.std.proofs.Common.{◌≡◌, ◌<◌, refl, subst, sym}
use Rattle.std.specs.Prelude.{None}
use Rattle.sm_cbor.specs.Stands.{cbor_source}
use Rattle.sm_shapes.specs.TableData.{shape_count}
use Rattle.sm_service.specs.ServiceView.{service_data}
use Rattle.sm_messages.specs.Goals.{a_response, goal_of, the_error, the_output}
use Rattle.sm_messages.specs.HeadAnswers.{IsJudged, addressed, refused_at_head, to_goal, to_named_error}
use Rattle.sm_messages.specs.Judging.{response_address, told_answer}
use Rattle.sm_messages.specs.Pieces.{StartsFed, UnlessMemory}
use Rattle.sm_messages.specs.declared.judging.ResponseAddress.TheVariants.{Error, Named, Output}
use Rattle.sm_messages.proofs.BodiesBegun.{begins_fed, begins_held}
use Rattle.sm_messages.proofs.TreeAnswered.{head_refused}
use Rattle.sm_messages.proofs.TreeBodies.{goal_structure}
use Rattle.sm_rpc.specs.Begun.{rpc_state, kept_message}
use Rattle.sm_codec.specs.Conventions.{cbor_convention}
use Rattle.sm_rpc.specs.Messages.{rpc_form}
use Rattle.sm_rpc.proofs.RpcBodies.{rpc_answered, rpc_kept}
use Rattle.sm_rpc.proofs.context.Rpc.marked_response.Goals as goal

pub fed-requires : goal.fed-requires
fed-requires c =
    let s = service_data c.args.service.now in
    record {
      number = subst (λ k. k < shape_count s.table) (sym c.output_shape.ensures)
          (goal_structure s (goal_of c.args.operation the_output) c.requires.servable (c.requires.number, tt)).0;
    }

pub returns-then-empty : goal.returns-then-empty
returns-then-empty c test =
    let s = service_data c.args.service.now in
    let head = c.args.head.now in
    let o = c.args.operation in
    let there = to_goal (goal_of o the_output) in
    let told : told_answer s head None o ≡ response_address o Output =
    subst (λ r. told_answer s head None o ≡ response_address o r) c.in-Ok-Output.field-0-is c.in-Ok-Output.ensures
    in
    begins_held cbor_source cbor_convention rpc_form s test (a_response o) head c.args.empty there (kept_message head) rpc_state
    (IsJudged rpc_form s (a_response o) head c.args.empty) c.held.result
    (rpc_answered s head c.args.empty o (addressed there) c.requires.marked told) c.requires.number c.if-empty.true
    (rpc_kept s o head there told) refl c.held.ensures

pub returns-else-empty : goal.returns-else-empty
returns-else-empty c test =
    let s = service_data c.args.service.now in
    let head = c.args.head.now in
    let o = c.args.operation in
    let there = to_goal (goal_of o the_output) in
    let told : told_answer s head None o ≡ response_address o Output =
    subst (λ r. told_answer s head None o ≡ response_address o r) c.in-Ok-Output.field-0-is c.in-Ok-Output.ensures
    in
    begins_fed cbor_source cbor_convention rpc_form s test (a_response o) head c.args.empty o the_output rpc_state
    (IsJudged rpc_form s (a_response o) head c.args.empty) c.fed.result
    (rpc_answered s head c.args.empty o (addressed there) c.requires.marked told) c.requires.number c.if-empty.false
    (subst (λ k. UnlessMemory (λ b. StartsFed cbor_source s.table o k (rpc_state b)) c.fed.result) c.output_shape.ensures c.fed.ensures)

pub returns-in-Ok-Error : goal.returns-in-Ok-Error
returns-in-Ok-Error c test =
    let s = service_data c.args.service.now in
    let head = c.args.head.now in
    let o = c.args.operation in
    let there = to_goal (goal_of o (the_error c.in-Ok-Error.field-0-0)) in
    let told : told_answer s head None o ≡ response_address o (Error c.in-Ok-Error.field-0-0) =
    subst (λ r. told_answer s head None o ≡ response_address o r) c.in-Ok-Error.field-0-is c.in-Ok-Error.ensures
    in
    begins_held cbor_source cbor_convention rpc_form s test (a_response o) head c.args.empty there (kept_message head) rpc_state
    (IsJudged rpc_form s (a_response o) head c.args.empty) c.held-in-Ok-Error.result
    (rpc_answered s head c.args.empty o (addressed there) c.requires.marked told) c.requires.number refl (rpc_kept s o head there told) refl
    c.held-in-Ok-Error.ensures

pub returns-in-Ok-Named : goal.returns-in-Ok-Named
returns-in-Ok-Named c test =
    let s = service_data c.args.service.now in
    let head = c.args.head.now in
    let o = c.args.operation in
    let there = to_named_error o in
    let told : told_answer s head None o ≡ response_address o Named =
    subst (λ r. told_answer s head None o ≡ response_address o r) c.in-Ok-Named.field-0-is c.in-Ok-Named.ensures
    in
    begins_held cbor_source cbor_convention rpc_form s test (a_response o) head c.args.empty there (kept_message head) rpc_state
    (IsJudged rpc_form s (a_response o) head c.args.empty) c.held-in-Ok-Named.result
    (rpc_answered s head c.args.empty o (addressed there) c.requires.marked told) c.requires.number refl (rpc_kept s o head there told) refl
    c.held-in-Ok-Named.ensures

pub returns-in-Err : goal.returns-in-Err
returns-in-Err c test =
    let s = service_data c.args.service.now in
    let head = c.args.head.now in
    let o = c.args.operation in
    head_refused (λ r. told_answer s head None o ≡ refused_at_head r)
    (λ r. IsJudged rpc_form s (a_response o) head c.args.empty (refused_at_head r))
    (λ r at. rpc_answered s head c.args.empty o (refused_at_head r) c.requires.marked at) c.in-Err.refusal c.in-Err.ensures

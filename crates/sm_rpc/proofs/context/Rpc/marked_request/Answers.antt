use Rattle.std.proofs.Common.{◌≡◌, ◌<◌, refl, subst, sym}
use Rattle.std.specs.Prelude.{Some}
use Rattle.sm_cbor.specs.Stands.{cbor_source}
use Rattle.sm_shapes.specs.TableData.{shape_count}
use Rattle.sm_service.specs.ServiceView.{service_data}
use Rattle.sm_messages.specs.Goals.{a_request, goal_of, the_input}
use Rattle.sm_messages.specs.HeadAnswers.{IsJudged, addressed, refused_at_head, to_goal}
use Rattle.sm_messages.specs.Judging.{asked_answer}
use Rattle.sm_messages.specs.Pieces.{StartsFed, UnlessMemory}
use Rattle.sm_messages.proofs.BodiesBegun.{begins_fed, begins_held, request_within}
use Rattle.sm_messages.proofs.TreeAnswered.{head_refused}
use Rattle.sm_messages.proofs.TreeBodies.{goal_structure}
use Rattle.sm_rpc.specs.Begun.{rpc_state, kept_message}
use Rattle.sm_rpc.specs.Heads.{cbor_type}
use Rattle.sm_codec.specs.Conventions.{cbor_convention}
use Rattle.sm_rpc.specs.Messages.{rpc_form}
use Rattle.sm_rpc.proofs.RpcBodies.{rpc_asked}
use Rattle.sm_rpc.proofs.context.Rpc.marked_request.Goals as goal

pub fed-requires : goal.fed-requires
fed-requires c =
    let s = service_data c.args.service.now in
    let head = c.args.head.now in
    let o = c.in-Ok.operation in
    let there = addressed (to_goal (goal_of o the_input)) in
    let judged = rpc_asked s head c.args.empty c.operation_of-named.result there c.requires.marked c.operation_of-named.ensures c.in-Ok.ensures in
    let within = request_within rpc_form c.reads_messages.ensures s head c.args.empty o judged in
    record {
      number = subst (λ k. k < shape_count s.table) (sym c.input_shape.ensures)
          (goal_structure s (goal_of o the_input) c.requires.servable (within, tt)).0;
    }

pub returns-then-empty : goal.returns-then-empty
returns-then-empty c test =
    let s = service_data c.args.service.now in
    let head = c.args.head.now in
    let o = c.in-Ok.operation in
    let there = addressed (to_goal (goal_of o the_input)) in
    let judged = rpc_asked s head c.args.empty c.operation_of-named.result there c.requires.marked c.operation_of-named.ensures c.in-Ok.ensures in
    let within = request_within rpc_form c.reads_messages.ensures s head c.args.empty o judged in
    begins_held cbor_source cbor_convention rpc_form s test a_request head c.args.empty (to_goal (goal_of o the_input))
    (kept_message head) rpc_state (IsJudged rpc_form s a_request head c.args.empty) c.held.result judged within c.if-empty.true tt
    refl c.held.ensures

pub returns-else-empty : goal.returns-else-empty
returns-else-empty c test =
    let s = service_data c.args.service.now in
    let head = c.args.head.now in
    let o = c.in-Ok.operation in
    let there = addressed (to_goal (goal_of o the_input)) in
    let judged = rpc_asked s head c.args.empty c.operation_of-named.result there c.requires.marked c.operation_of-named.ensures c.in-Ok.ensures in
    let within = request_within rpc_form c.reads_messages.ensures s head c.args.empty o judged in
    begins_fed cbor_source cbor_convention rpc_form s test a_request head c.args.empty o the_input rpc_state
    (IsJudged rpc_form s a_request head c.args.empty) c.fed.result judged within c.if-empty.false
    (subst (λ k. UnlessMemory (λ b. StartsFed cbor_source s.table o k (rpc_state b)) c.fed.result) c.input_shape.ensures c.fed.ensures)

pub returns-in-Err : goal.returns-in-Err
returns-in-Err c test =
    let s = service_data c.args.service.now in
    let head = c.args.head.now in
    let named = c.operation_of-named.result in
    head_refused (λ r. asked_answer s head c.args.empty (Some cbor_type) named ≡ refused_at_head r)
    (λ r. IsJudged rpc_form s a_request head c.args.empty (refused_at_head r))
    (λ r at. rpc_asked s head c.args.empty named (refused_at_head r) c.requires.marked c.operation_of-named.ensures at) c.in-Err.refusal
    c.in-Err.ensures

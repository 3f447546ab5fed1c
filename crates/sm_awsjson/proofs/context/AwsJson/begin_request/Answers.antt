use Rattle.std.proofs.Common.{◌≡◌, ◌<◌, refl, subst, sym}
use Rattle.std.specs.Prelude.{Some}
use Rattle.sm_json.specs.Stands.{json_source}
use Rattle.sm_shapes.specs.TableData.{shape_count}
use Rattle.sm_service.specs.ServiceView.{service_data}
use Rattle.sm_messages.specs.Answers.{AtHead, RefusedAs}
use Rattle.sm_messages.specs.Goals.{a_request, goal_of, the_input}
use Rattle.sm_messages.specs.HeadAnswers.{IsJudged, addressed, refused_at_head, to_goal}
use Rattle.sm_messages.specs.Judging.{asked_answer}
use Rattle.sm_messages.specs.Pieces.{StartsFed, UnlessMemory}
use Rattle.sm_messages.proofs.BodiesBegun.{begins_fed, begins_held, request_within}
use Rattle.sm_messages.proofs.TreeAnswered.{head_refused}
use Rattle.sm_messages.proofs.TreeBodies.{goal_structure}
use Rattle.sm_awsjson.specs.Begun.{aws_state, kept_message}
use Rattle.sm_awsjson.specs.Heads.{json_type}
use Rattle.sm_awsjson.specs.Messages.{aws_convention, aws_form}
use Rattle.sm_awsjson.proofs.AwsBodies.{aws_asked}
use Rattle.sm_awsjson.proofs.AwsForm.{aws_reads}
use Rattle.sm_awsjson.proofs.context.AwsJson.begin_request.Goals as goal

pub fed-requires : goal.fed-requires
fed-requires c =
    let s = service_data c.args.service.now in
    let version = c.args.self.now.version in
    let head = c.args.head.now in
    let o = c.in-Ok.operation in
    let there = addressed (to_goal (goal_of o the_input)) in
    let asked : asked_answer s head c.args.empty (Some (json_type version)) c.operation_of-named.result ≡ there =
    subst (λ t. asked_answer s head c.args.empty (Some t) c.operation_of-named.result ≡ there) c.content_type.ensures c.in-Ok.ensures
    in
    let judged = aws_asked version s head c.args.empty c.operation_of-named.result there c.operation_of-named.ensures asked in
    let within = request_within (aws_form version) (aws_reads version) s head c.args.empty o judged in
    record {
      number = subst (λ k. k < shape_count s.table) (sym c.input_shape.ensures)
          (goal_structure s (goal_of o the_input) c.requires (within, tt)).0;
    }

pub returns-then-empty : goal.returns-then-empty
returns-then-empty c test =
    let s = service_data c.args.service.now in
    let version = c.args.self.now.version in
    let head = c.args.head.now in
    let o = c.in-Ok.operation in
    let there = addressed (to_goal (goal_of o the_input)) in
    let asked : asked_answer s head c.args.empty (Some (json_type version)) c.operation_of-named.result ≡ there =
    subst (λ t. asked_answer s head c.args.empty (Some t) c.operation_of-named.result ≡ there) c.content_type.ensures c.in-Ok.ensures
    in
    let judged = aws_asked version s head c.args.empty c.operation_of-named.result there c.operation_of-named.ensures asked in
    let within = request_within (aws_form version) (aws_reads version) s head c.args.empty o judged in
    begins_held json_source aws_convention (aws_form version) s test a_request head c.args.empty (to_goal (goal_of o the_input))
    (kept_message head) aws_state (IsJudged (aws_form version) s a_request head c.args.empty) c.held.result judged within c.if-empty.true tt
    refl c.held.ensures

pub returns-else-empty : goal.returns-else-empty
returns-else-empty c test =
    let s = service_data c.args.service.now in
    let version = c.args.self.now.version in
    let head = c.args.head.now in
    let o = c.in-Ok.operation in
    let there = addressed (to_goal (goal_of o the_input)) in
    let asked : asked_answer s head c.args.empty (Some (json_type version)) c.operation_of-named.result ≡ there =
    subst (λ t. asked_answer s head c.args.empty (Some t) c.operation_of-named.result ≡ there) c.content_type.ensures c.in-Ok.ensures
    in
    let judged = aws_asked version s head c.args.empty c.operation_of-named.result there c.operation_of-named.ensures asked in
    let within = request_within (aws_form version) (aws_reads version) s head c.args.empty o judged in
    begins_fed json_source aws_convention (aws_form version) s test a_request head c.args.empty o the_input aws_state
    (IsJudged (aws_form version) s a_request head c.args.empty) c.fed.result judged within c.if-empty.false
    (subst (λ k. UnlessMemory (λ b. StartsFed json_source s.table o k (aws_state b)) c.fed.result) c.input_shape.ensures c.fed.ensures)

pub returns-in-Err : goal.returns-in-Err
returns-in-Err c test =
    let s = service_data c.args.service.now in
    let version = c.args.self.now.version in
    let head = c.args.head.now in
    let named = c.operation_of-named.result in
    let refused : RefusedAs (AtHead (λ r. asked_answer s head c.args.empty (Some (json_type version)) named ≡ refused_at_head r))
    c.in-Err.refusal =
    subst (λ t. RefusedAs (AtHead (λ r. asked_answer s head c.args.empty (Some t) named ≡ refused_at_head r)) c.in-Err.refusal)
    c.content_type.ensures c.in-Err.ensures
    in
    head_refused (λ r. asked_answer s head c.args.empty (Some (json_type version)) named ≡ refused_at_head r)
    (λ r. IsJudged (aws_form version) s a_request head c.args.empty (refused_at_head r))
    (λ r at. aws_asked version s head c.args.empty named (refused_at_head r) c.operation_of-named.ensures at) c.in-Err.refusal refused

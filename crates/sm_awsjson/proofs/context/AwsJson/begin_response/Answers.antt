use Rattle.std.proofs.Common.{◌≡◌, ◌<◌, refl, subst, sym}
use Rattle.sm_json.specs.Stands.{json_source}
use Rattle.sm_shapes.specs.TableData.{shape_count}
use Rattle.sm_service.specs.ServiceView.{service_data}
use Rattle.sm_messages.specs.Answers.{AtHead, RefusedAs}
use Rattle.sm_messages.specs.Goals.{a_response, goal_of, the_error, the_output}
use Rattle.sm_messages.specs.HeadAnswers.{IsJudged, addressed, refused_at_head, to_goal, to_named_error}
use Rattle.sm_messages.specs.Judging.{response_address, told_answer}
use Rattle.sm_messages.specs.Names.{told_by_head}
use Rattle.sm_messages.specs.Pieces.{StartsFed, UnlessMemory}
use Rattle.sm_messages.specs.declared.judging.ResponseAddress.TheVariants.{Error, Named, Output}
use Rattle.sm_messages.proofs.BodiesBegun.{begins_fed, begins_held}
use Rattle.sm_messages.proofs.TreeAnswered.{head_refused}
use Rattle.sm_messages.proofs.TreeBodies.{goal_structure}
use Rattle.sm_awsjson.specs.Begun.{aws_state, kept_message}
use Rattle.sm_awsjson.specs.Messages.{aws_convention, aws_form}
use Rattle.sm_awsjson.proofs.AwsBodies.{aws_answered, aws_kept}
use Rattle.sm_awsjson.proofs.context.AwsJson.begin_response.Goals as goal

pub fed-requires : goal.fed-requires
fed-requires c =
    let s = service_data c.args.service.now in
    record {
      number = subst (λ k. k < shape_count s.table) (sym c.output_shape.ensures)
          (goal_structure s (goal_of c.args.operation the_output) c.requires.servable (c.requires.number, tt)).0;
    }

pub returns-then-empty : goal.returns-then-empty
returns-then-empty c test =
    let s = service_data c.args.service.now in
    let version = c.args.self.now.version in
    let head = c.args.head.now in
    let o = c.args.operation in
    let there = to_goal (goal_of o the_output) in
    let first : told_answer s head (told_by_head head) o ≡ response_address o c.in-Ok-Output.field-0 =
    subst (λ t. told_answer s head t o ≡ response_address o c.in-Ok-Output.field-0) c.told_by_head-told.ensures c.in-Ok-Output.ensures
    in
    let told : told_answer s head (told_by_head head) o ≡ response_address o Output =
    subst (λ r. told_answer s head (told_by_head head) o ≡ response_address o r) c.in-Ok-Output.field-0-is first
    in
    begins_held json_source aws_convention (aws_form version) s test (a_response o) head c.args.empty there (kept_message head) aws_state
    (IsJudged (aws_form version) s (a_response o) head c.args.empty) c.held.result
    (aws_answered version s head c.args.empty o (addressed there) told) c.requires.number c.if-empty.true
    (aws_kept version s o head there told) refl c.held.ensures

pub returns-else-empty : goal.returns-else-empty
returns-else-empty c test =
    let s = service_data c.args.service.now in
    let version = c.args.self.now.version in
    let head = c.args.head.now in
    let o = c.args.operation in
    let there = to_goal (goal_of o the_output) in
    let first : told_answer s head (told_by_head head) o ≡ response_address o c.in-Ok-Output.field-0 =
    subst (λ t. told_answer s head t o ≡ response_address o c.in-Ok-Output.field-0) c.told_by_head-told.ensures c.in-Ok-Output.ensures
    in
    let told : told_answer s head (told_by_head head) o ≡ response_address o Output =
    subst (λ r. told_answer s head (told_by_head head) o ≡ response_address o r) c.in-Ok-Output.field-0-is first
    in
    begins_fed json_source aws_convention (aws_form version) s test (a_response o) head c.args.empty o the_output aws_state
    (IsJudged (aws_form version) s (a_response o) head c.args.empty) c.fed.result
    (aws_answered version s head c.args.empty o (addressed there) told) c.requires.number c.if-empty.false
    (subst (λ k. UnlessMemory (λ b. StartsFed json_source s.table o k (aws_state b)) c.fed.result) c.output_shape.ensures c.fed.ensures)

pub returns-in-Ok-Error : goal.returns-in-Ok-Error
returns-in-Ok-Error c test =
    let s = service_data c.args.service.now in
    let version = c.args.self.now.version in
    let head = c.args.head.now in
    let o = c.args.operation in
    let there = to_goal (goal_of o (the_error c.in-Ok-Error.field-0-0)) in
    let first : told_answer s head (told_by_head head) o ≡ response_address o c.in-Ok-Error.field-0 =
    subst (λ t. told_answer s head t o ≡ response_address o c.in-Ok-Error.field-0) c.told_by_head-told.ensures c.in-Ok-Error.ensures
    in
    let told : told_answer s head (told_by_head head) o ≡ response_address o (Error c.in-Ok-Error.field-0-0) =
    subst (λ r. told_answer s head (told_by_head head) o ≡ response_address o r) c.in-Ok-Error.field-0-is first
    in
    begins_held json_source aws_convention (aws_form version) s test (a_response o) head c.args.empty there (kept_message head) aws_state
    (IsJudged (aws_form version) s (a_response o) head c.args.empty) c.held-in-Ok-Error.result
    (aws_answered version s head c.args.empty o (addressed there) told) c.requires.number refl (aws_kept version s o head there told) refl
    c.held-in-Ok-Error.ensures

pub returns-in-Ok-Named : goal.returns-in-Ok-Named
returns-in-Ok-Named c test =
    let s = service_data c.args.service.now in
    let version = c.args.self.now.version in
    let head = c.args.head.now in
    let o = c.args.operation in
    let there = to_named_error o in
    let first : told_answer s head (told_by_head head) o ≡ response_address o c.in-Ok-Named.field-0 =
    subst (λ t. told_answer s head t o ≡ response_address o c.in-Ok-Named.field-0) c.told_by_head-told.ensures c.in-Ok-Named.ensures
    in
    let told : told_answer s head (told_by_head head) o ≡ response_address o Named =
    subst (λ r. told_answer s head (told_by_head head) o ≡ response_address o r) c.in-Ok-Named.field-0-is first
    in
    begins_held json_source aws_convention (aws_form version) s test (a_response o) head c.args.empty there (kept_message head) aws_state
    (IsJudged (aws_form version) s (a_response o) head c.args.empty) c.held-in-Ok-Named.result
    (aws_answered version s head c.args.empty o (addressed there) told) c.requires.number refl (aws_kept version s o head there told) refl
    c.held-in-Ok-Named.ensures

pub returns-in-Err : goal.returns-in-Err
returns-in-Err c test =
    let s = service_data c.args.service.now in
    let version = c.args.self.now.version in
    let head = c.args.head.now in
    let o = c.args.operation in
    let refused : RefusedAs (AtHead (λ r. told_answer s head (told_by_head head) o ≡ refused_at_head r)) c.in-Err.refusal =
    subst (λ t. RefusedAs (AtHead (λ r. told_answer s head t o ≡ refused_at_head r)) c.in-Err.refusal) c.told_by_head-told.ensures
    c.in-Err.ensures
    in
    head_refused (λ r. told_answer s head (told_by_head head) o ≡ refused_at_head r)
    (λ r. IsJudged (aws_form version) s (a_response o) head c.args.empty (refused_at_head r))
    (λ r at. aws_answered version s head c.args.empty o (refused_at_head r) at) c.in-Err.refusal refused

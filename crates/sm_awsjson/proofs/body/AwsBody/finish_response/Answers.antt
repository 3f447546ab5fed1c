use Rattle.std.proofs.Common.{subst}
use Rattle.std.specs.Prelude.{Err, Ok}
use Rattle.sm_json.specs.Stands.{json_source}
use Rattle.sm_service.specs.ServiceView.{service_data}
use Rattle.sm_messages.specs.Begun.{FedFor, HeldFor}
use Rattle.sm_messages.specs.Goals.{a_response, goal_of, goal_shape}
use Rattle.sm_messages.specs.Heads.{is_empty}
use Rattle.sm_messages.specs.Names.{told_by_body}
use Rattle.sm_messages.proofs.BodiesBegun.{fed_response, held_response}
use Rattle.sm_awsjson.specs.Begun.{AwsBegun}
use Rattle.sm_awsjson.specs.Heads.{json_type}
use Rattle.sm_awsjson.specs.Messages.{aws_convention, aws_form}
use Rattle.sm_awsjson.proofs.AwsBodies.{aws_tree_form}
use Rattle.sm_awsjson.proofs.AwsForm.{aws_reads}
use Rattle.sm_awsjson.proofs.body.AwsBody.finish_response.Goals as goal

pub held_reply-requires-clause-number : goal.held_reply-requires-clause-number
held_reply-requires-clause-number g c =
    let (o, (head, bytes, begun)) = c.requires.begun in
    let held : HeldFor (aws_form c.args.protocol.now.version) (service_data c.args.service.now) (a_response o) head (is_empty bytes) bytes
    c.in-Held.operation c.in-Held.message =
    subst (λ b. AwsBegun c.args.protocol.now.version (service_data c.args.service.now) g.P.Patterns.test (a_response o) b head (is_empty bytes)
    bytes) c.in-Held.is begun
    in
    held.within

pub returns-in-Held-clause-answers : goal.returns-in-Held-clause-answers
returns-in-Held-clause-answers g c o head bytes begun =
    let s = service_data c.args.service.now in
    let version = c.args.protocol.now.version in
    let held : HeldFor (aws_form version) s (a_response o) head (is_empty bytes) bytes c.in-Held.operation c.in-Held.message =
    subst (λ b. AwsBegun version s g.P.Patterns.test (a_response o) b head (is_empty bytes) bytes) c.in-Held.is begun
    in
    held_response (aws_form version) aws_convention (json_type version) (aws_tree_form version) (aws_reads version) s g.P.Patterns.test o head
    bytes c.in-Held.operation c.in-Held.message c.held_reply.result held
    (λ there at. c.held_reply.ensures.reply version there at)

pub fed_value-requires-clause-fed : goal.fed_value-requires-clause-fed
fed_value-requires-clause-fed g c =
    let (o, (head, bytes, begun)) = c.requires.begun in
    let s = service_data c.args.service.now in
    let fed : FedFor _ json_source aws_convention (aws_form c.args.protocol.now.version) s g.P.Patterns.test (a_response o) head (is_empty bytes)
    bytes c.in-Fed.operation c.in-Fed.reader c.in-Fed.decoder =
    subst (λ b. AwsBegun c.args.protocol.now.version s g.P.Patterns.test (a_response o) b head (is_empty bytes) bytes) c.in-Fed.is begun
    in
    (goal_shape s (goal_of c.in-Fed.operation fed.role), bytes, fed.come)

pub returns-in-Ok-clause-answers : goal.returns-in-Ok-clause-answers
returns-in-Ok-clause-answers g c o head bytes begun =
    let s = service_data c.args.service.now in
    let version = c.args.protocol.now.version in
    let fed : FedFor _ json_source aws_convention (aws_form version) s g.P.Patterns.test (a_response o) head (is_empty bytes) bytes
    c.in-Fed.operation c.in-Fed.reader c.in-Fed.decoder =
    subst (λ b. AwsBegun version s g.P.Patterns.test (a_response o) b head (is_empty bytes) bytes) c.in-Fed.is begun
    in
    fed_response (aws_form version) aws_convention (json_type version) (aws_tree_form version) (aws_reads version) s g.P.Patterns.test o head
    bytes json_source c.in-Fed.operation c.in-Fed.reader c.in-Fed.decoder (Ok c.in-Ok.value) fed
    (λ at full come. c.in-Ok.ensures.value at told_by_body bytes full come)

pub returns-in-Err-clause-answers : goal.returns-in-Err-clause-answers
returns-in-Err-clause-answers g c o head bytes begun =
    let s = service_data c.args.service.now in
    let version = c.args.protocol.now.version in
    let fed : FedFor _ json_source aws_convention (aws_form version) s g.P.Patterns.test (a_response o) head (is_empty bytes) bytes
    c.in-Fed.operation c.in-Fed.reader c.in-Fed.decoder =
    subst (λ b. AwsBegun version s g.P.Patterns.test (a_response o) b head (is_empty bytes) bytes) c.in-Fed.is begun
    in
    fed_response (aws_form version) aws_convention (json_type version) (aws_tree_form version) (aws_reads version) s g.P.Patterns.test o head
    bytes json_source c.in-Fed.operation c.in-Fed.reader c.in-Fed.decoder (Err c.in-Err.refusal) fed
    (λ at full come. c.in-Err.ensures.value at told_by_body bytes full come)

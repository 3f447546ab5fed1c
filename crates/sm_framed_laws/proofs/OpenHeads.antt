-- No message that a protocol writes says that its connection ends behind it.
use Rattle.std.proofs.Common.{◌≡◌, ℕ, Bool, true, false, List, [], ◌∷◌, ◌++◌, refl, sym, ap, ◌∙◌, subst}
use Rattle.std.specs.Prelude.{◌==◌, Option, None, Some, codes, cond}
use Rattle.sm_shapes.specs.Fitting.{Fits, Test}
use Rattle.sm_shapes.specs.Places.{root_place}
use Rattle.sm_shapes.specs.Values.{Val, structure_val}
use Rattle.sm_http.specs.Connections.{says_close}
use Rattle.sm_http.specs.FieldLists.{has_token}
use Rattle.sm_http.specs.FieldValues.{values_named}
use Rattle.sm_http.specs.declared.message.Field.{Field}
use Rattle.sm_part_texts.specs.Laws.{CarriedTextsPass}
use Rattle.sm_bind_laws.specs.service.ServiceData.{HttpData, ServiceData}
use Rattle.sm_bind_laws.specs.messages.Goals.{Goal, Role, goal_shape, the_error, the_input, the_output}
use Rattle.sm_bind_laws.specs.messages.Heads.{is_empty}
use Rattle.sm_bind_laws.specs.messages.IsForm.{Serves, ServesGoal}
use Rattle.sm_bind_laws.specs.messages.MessageForm.{MessageForm}
use Rattle.sm_bind_laws.specs.messages.TreeBodies.{fields_in, goal_place, status_of}
use Rattle.sm_bind_laws.specs.messages.WrittenHeads.{length_field, type_fields, written_request, written_response}
use Rattle.sm_bind_laws.proofs.messages.TreeBodies.{fields_back, goal_structure}
use Rattle.sm_bind_laws.specs.bind_read.BoundGoals.{bound_at}
use Rattle.sm_bind_laws.specs.bind_write.CarriedParts.{uncarried_parts}
use Rattle.sm_bind_laws.specs.bind_write.WrittenParts.{request_target}
use Rattle.sm_awsjson.specs.Heads.{json_type, target_field}
use Rattle.sm_awsjson.specs.Messages as aws
use Rattle.sm_awsjson.specs.declared.version.AwsVersion.{AwsVersion}
use Rattle.sm_rest.specs.RestForm.{rest_form}
use Rattle.sm_rest.specs.RestGoals.{rule_at, written_type}
use Rattle.sm_rest.specs.WrittenRest.{goal_bytes, goal_parts, request_by, rest_written, told_fields, written_on}
use Rattle.sm_rpc.specs.Heads.{accept_field, cbor_type, path_of, protocol_field}
use Rattle.sm_rpc.specs.Messages as rpc
use Rattle.sm_gateway.specs.GatewayData.{IsHost}
use Rattle.sm_framed_laws.proofs.RestFramed.{goal_known}
use Rattle.sm_framed_laws.proofs.WrittenHeads.{behind_named}

-- no option stands in the fields of a connection
abbrev NoneSaid : List Field → Type 0
NoneSaid fields = values_named (codes "connection") fields ≡ []

between : (t : Bool) (content_type : List ℕ) (more last : List Field) → NoneSaid more → NoneSaid last
    → NoneSaid (type_fields t content_type ++ more ++ last)
between true content_type more last h e = behind_named (codes "connection") more last h ∙ e
between false content_type more last h e = behind_named (codes "connection") more last h ∙ e

open_request : (method target host content_type : List ℕ) (more : List Field) (body : List ℕ) → NoneSaid more
    → says_close (written_request method target host content_type more body).head ≡ false
open_request method target host content_type more body h =
    ap (has_token (codes "close")) (between (is_empty body) content_type more (length_field body ∷ []) h refl)

open_response : (status : ℕ) (content_type : List ℕ) (more : List Field) (body : List ℕ) → NoneSaid more
    → says_close (written_response status content_type more body).head ≡ false
open_response status content_type more body h = by (status == 204)
  where
    by : (t : Bool)
        → has_token (codes "close") (values_named (codes "connection") (type_fields (is_empty body) content_type ++ more ++ cond t [] (length_field body ∷ [])))
        ≡ false
    by true = ap (has_token (codes "close")) (between (is_empty body) content_type more [] h refl)
    by false = ap (has_token (codes "close")) (between (is_empty body) content_type more (length_field body ∷ []) h refl)

abbrev pub StaysOpen : MessageForm → Type 0
StaysOpen f =
    (s : ServiceData) (test : Test) (g : Goal) (host : List ℕ) (v : Val) → Serves f s test → ServesGoal f s g
    → Fits s.table test (root_place (goal_shape s g)) v → f.uncarried s g v ≡ [] → IsHost host
    → says_close (f.written s g host v).head ≡ false

pub aws_open : (version : AwsVersion) → StaysOpen (aws.aws_form version)
aws_open version s test g host v serves served fits carried is = by g.role
  where
    by : (r : Role) → says_close (aws.written_on r version s g host (aws.body_of version s g v)).head ≡ false
    by the_input =
        open_request (codes "POST") (codes "/") host (json_type version) (target_field s g.operation ∷ []) (aws.body_of version s g v) refl
    by the_output = open_response (status_of s g) (json_type version) [] (aws.body_of version s g v) refl
    by (the_error e) = open_response (status_of s g) (json_type version) [] (aws.body_of version s g v) refl

pub rpc_open : StaysOpen rpc.rpc_form
rpc_open s test g host v serves served fits carried is = by g.role
  where
    by : (r : Role) → says_close (rpc.written_on r s g host (rpc.body_of s g v)).head ≡ false
    by the_input =
        open_request (codes "POST") (path_of s g.operation) host cbor_type (protocol_field ∷ accept_field ∷ []) (rpc.body_of s g v) refl
    by the_output = open_response (status_of s g) cbor_type (protocol_field ∷ []) (rpc.body_of s g v) refl
    by (the_error e) = open_response (status_of s g) cbor_type (protocol_field ∷ []) (rpc.body_of s g v) refl

-- whatever rule the operation has
rest_request : (o : Option HttpData) (s : ServiceData) (g : Goal) (host : List ℕ) (v : Val) → NoneSaid (goal_parts s g v).fields
    → says_close (request_by o host (written_type (bound_at s g)) (goal_parts s g v) (goal_bytes s g v)).head ≡ false
rest_request None s g host v h = open_request [] [] host (written_type (bound_at s g)) (goal_parts s g v).fields (goal_bytes s g v) h
rest_request (Some rule) s g host v h =
    open_request rule.method (request_target rule.uri (goal_parts s g v)) host (written_type (bound_at s g)) (goal_parts s g v).fields
    (goal_bytes s g v) h

rest_said : (r : Role) (s : ServiceData) (g : Goal) (host : List ℕ) (v : Val) → NoneSaid (goal_parts s g v).fields
    → says_close (written_on r s g host (goal_parts s g v) (goal_bytes s g v)).head ≡ false
rest_said the_input s g host v h = rest_request (rule_at s g) s g host v h
rest_said the_output s g host v h =
    open_response (goal_parts s g v).status (written_type (bound_at s g)) (goal_parts s g v).fields (goal_bytes s g v) h
rest_said (the_error e) s g host v h =
    open_response (goal_parts s g v).status (written_type (bound_at s g)) (told_fields s g (the_error e) ++ (goal_parts s g v).fields)
    (goal_bytes s g v) h

pub rest_open : CarriedTextsPass → StaysOpen rest_form
rest_open pass s test g host v serves served fits carried is =
    let at = goal_structure s g serves.servable served.goal in
    let back = fields_back s.table test (goal_place s g) v at.1 fits in
    subst (λ w. says_close (rest_written s g host w).head ≡ false) back
    (rest_said g.role s g host (structure_val (fields_in v)) (goal_known pass s test serves host (is.2) (fields_in v) g served
    (subst (λ w. Fits s.table test (goal_place s g) w) (sym back) fits)
    (subst (λ w. uncarried_parts (bound_at s g) w ≡ []) (sym back) carried)).say.connection)

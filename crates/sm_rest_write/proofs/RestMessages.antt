-- The messages that outlines make.
use Rattle.std.proofs.Common.{◌≡◌, ◌++◌, ℕ, List, refl, sym, ap, ◌∙◌}
use Rattle.std.specs.Prelude.{Option, Some}
use Rattle.sm_http.specs.declared.message.Field.{Field}
use Rattle.sm_http.specs.declared.message.Message.{Message}
use Rattle.sm_shapes.specs.Values.{Val}
use Rattle.sm_rest.specs.service.ServiceData.{HttpData, ServiceData}
use Rattle.sm_rest.specs.messages.Answers.{reply_role, reply_val}
use Rattle.sm_rest.specs.messages.Goals.{goal_of, the_input}
use Rattle.sm_rest.specs.messages.WrittenHeads.{written_response}
use Rattle.sm_rest.specs.messages.declared.reply.Reply.{Reply}
use Rattle.sm_rest.specs.messages.declared.reply.Reply.TheVariants.{Error, Output}
use Rattle.sm_rest.specs.bind.PartsData.{PartsData}
use Rattle.sm_rest.specs.bind.Roles.{Bound}
use Rattle.sm_rest.specs.bind_bodies.WrittenBodies.{content_bytes}
use Rattle.sm_rest.specs.bind_read.BoundGoals.{bound_at}
use Rattle.sm_rest.specs.bind_write.WrittenParts.{written_content, written_parts}
use Rattle.sm_rest.specs.RestGoals.{rule_at, usual_status, written_type}
use Rattle.sm_rest.specs.WrittenRest.{goal_bytes, goal_parts, request_by, rest_written, told_fields}
use Rattle.sm_rest_write.specs.steps.Bodies.{bytes_of}
use Rattle.sm_rest_write.specs.steps.Outlines.{IsOutlineOf, outline_request, outline_response}
use Rattle.sm_rest_write.specs.steps.ToldFields.{fields_telling}
use Rattle.sm_rest_write.specs.declared.outline.Outline.{Outline}

pub request_is : (s : ServiceData) (o : ℕ) (h : HttpData) (host : List ℕ) (v : Val) (b : Bound) (outline : Outline)
    → b ≡ bound_at s (goal_of o the_input) → rule_at s (goal_of o the_input) ≡ Some h → IsOutlineOf b 200 v outline
    → outline_request h host outline ≡ rest_written s (goal_of o the_input) host v
request_is s o h host v b outline e rule is =
    let g = goal_of o the_input in
    ap (λ p. request_by (Some h) host outline.content_type.now p (bytes_of outline.body)) is.parts
    ∙ ap (λ u. request_by (Some h) host outline.content_type.now (written_parts b 200 v) u) is.body
    ∙ ap (λ t. request_by (Some h) host t (written_parts b 200 v) (content_bytes (written_content b v))) is.content_type
    ∙ ap (λ a. request_by (Some h) host (written_type a) (written_parts a 200 v) (content_bytes (written_content a v))) e
    ∙ ap (λ r. request_by r host (written_type (bound_at s g)) (goal_parts s g v) (goal_bytes s g v)) (sym rule)

-- a response by its parts
abbrev response_by : List Field → List ℕ → PartsData → List ℕ → Message
response_by told content_type parts body = written_response parts.status content_type (told ++ parts.fields) body

role_response : (s : ServiceData) (o : ℕ) (reply : Reply) (host : List ℕ) (v : Val)
    → response_by (told_fields s (goal_of o (reply_role reply)) (reply_role reply)) (written_type (bound_at s (goal_of o (reply_role reply))))
    (goal_parts s (goal_of o (reply_role reply)) v) (goal_bytes s (goal_of o (reply_role reply)) v)
    ≡ rest_written s (goal_of o (reply_role reply)) host v
role_response s o (Output w) host v = refl
role_response s o (Error place w) host v = refl

pub response_is : (s : ServiceData) (o : ℕ) (reply : Reply) (host : List ℕ) (told : Option (List ℕ)) (usual : ℕ) (v : Val) (b : Bound)
    (outline : Outline) → b ≡ bound_at s (goal_of o (reply_role reply))
    → fields_telling told ≡ told_fields s (goal_of o (reply_role reply)) (reply_role reply)
    → usual ≡ usual_status s (goal_of o (reply_role reply)) → v ≡ reply_val reply → IsOutlineOf b usual v outline
    → outline_response told outline ≡ rest_written s (goal_of o (reply_role reply)) host (reply_val reply)
response_is s o reply host told usual v b outline e names status val is =
    let g = goal_of o (reply_role reply) in
    let fields = told_fields s g (reply_role reply) in
    ap (λ p. response_by (fields_telling told) outline.content_type.now p (bytes_of outline.body)) is.parts
    ∙ ap (λ u. response_by (fields_telling told) outline.content_type.now (written_parts b usual v) u) is.body
    ∙ ap (λ t. response_by (fields_telling told) t (written_parts b usual v) (content_bytes (written_content b v))) is.content_type
    ∙ ap (λ a. response_by (fields_telling told) (written_type a) (written_parts a usual v) (content_bytes (written_content a v))) e
    ∙ ap (λ n. response_by n (written_type (bound_at s g)) (written_parts (bound_at s g) usual v) (goal_bytes s g v)) names
    ∙ ap (λ n. response_by fields (written_type (bound_at s g)) (written_parts (bound_at s g) n v) (goal_bytes s g v)) status
    ∙ ap (λ w. response_by fields (written_type (bound_at s g)) (goal_parts s g w) (goal_bytes s g w)) val
    ∙ role_response s o reply host (reply_val reply)

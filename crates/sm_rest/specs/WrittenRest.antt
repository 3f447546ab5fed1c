-- The one message of restJson1 that is written for a value (Smithy 2.0, "AWS restJson1 protocol", "HTTP binding traits"). The field that
-- tells an error stands before the bound ones.
use Rattle.std.specs.Prelude.{ℕ, List, [], ◌∷◌, ◌++◌, Option, None, Some}
use Rattle.sm_shapes.specs.Values.{Val}
use Rattle.sm_http.specs.declared.message.Field.{Field}
use Rattle.sm_http.specs.declared.message.Message.{Message}
use Rattle.sm_bind_read.specs.service.ServiceData.{HttpData, ServiceData, name_of_error}
use Rattle.sm_bind_read.specs.messages.Goals.{Goal, Role, error_at, operation_at, the_error, the_input, the_output}
use Rattle.sm_bind_read.specs.messages.Names.{error_field_name}
use Rattle.sm_bind_read.specs.messages.WrittenHeads.{field_of, written_request, written_response}
use Rattle.sm_bind_read.specs.bind.PartsData.{PartsData}
use Rattle.sm_bind_bodies.specs.WrittenBodies.{content_bytes}
use Rattle.sm_bind_read.specs.BoundGoals.{bound_at}
use Rattle.sm_bind_bodies.specs.bind_write.WrittenParts.{request_target, written_content, written_parts}
use Rattle.sm_rest.specs.RestGoals.{rule_at, usual_status, written_type}

abbrev pub goal_parts : ServiceData → Goal → Val → PartsData
goal_parts s g v = written_parts (bound_at s g) (usual_status s g) v

abbrev pub goal_bytes : ServiceData → Goal → Val → List ℕ
goal_bytes s g v = content_bytes (written_content (bound_at s g) v)

-- the field that tells an error by its name, without a namespace
abbrev pub told_fields : ServiceData → Goal → Role → List Field
told_fields s g the_input = []
told_fields s g the_output = []
told_fields s g (the_error e) = field_of error_field_name (name_of_error (error_at (operation_at s g.operation) e)) ∷ []

-- an operation without `http` isn't served, and has this request to be total
abbrev pub request_by : Option HttpData → List ℕ → List ℕ → PartsData → List ℕ → Message
request_by None host content_type parts body = written_request [] [] host content_type parts.fields body
request_by (Some h) host content_type parts body =
    written_request h.method (request_target h.uri parts) host content_type parts.fields body

abbrev pub written_on : Role → ServiceData → Goal → List ℕ → PartsData → List ℕ → Message
written_on the_input s g host parts body = request_by (rule_at s g) host (written_type (bound_at s g)) parts body
written_on the_output s g host parts body = written_response parts.status (written_type (bound_at s g)) parts.fields body
written_on (the_error e) s g host parts body =
    written_response parts.status (written_type (bound_at s g)) (told_fields s g (the_error e) ++ parts.fields) body

abbrev pub rest_written : ServiceData → Goal → List ℕ → Val → Message
rest_written s g host v = written_on g.role s g host (goal_parts s g v) (goal_bytes s g v)

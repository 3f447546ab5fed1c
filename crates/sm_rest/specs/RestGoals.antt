-- What a goal of restJson1 has: the `http` of its operation, the content type of its body, and the status of a response (Smithy 2.0, "http
-- trait", "httpError trait", "httpPayload trait", "mediaType trait").
use Rattle.std.specs.Prelude.{ℕ, cond, List, Option, Some, None, codes, unwrap_or}
use Rattle.sm_shapes.specs.Places.{kind_of, member_place}
use Rattle.sm_shapes.specs.TableData.{TableData, media_type_at}
use Rattle.sm_shapes.specs.declared.kinds.ShapeKind.{ShapeKind}
use Rattle.sm_shapes.specs.declared.kinds.ShapeKind.TheVariants as table
use Rattle.sm_bind_read.specs.service.ServiceData.{HttpData, OperationData, ServiceData}
use Rattle.sm_bind_read.specs.service.declared.error.ErrorShape.{ErrorShape}
use Rattle.sm_bind_read.specs.messages.Goals.{Goal, Role, error_at, operation_at, the_error, the_input, the_output}
use Rattle.sm_bind_read.specs.messages.WrittenHeads.{fault_status}
use Rattle.sm_bind_read.specs.bind.Roles.{Bound}
use Rattle.sm_bind_bodies.specs.bind_write.Restrictions.{is_media_type}
use Rattle.sm_rest_heads.specs.BodyParts.{json_type, part_of}
use Rattle.sm_rest_heads.specs.declared.bodies.BodyPart.{BodyPart}
use Rattle.sm_rest_heads.specs.declared.bodies.BodyPart.TheVariants.{Document, Nothing, Raw, Tree}

abbrev pub rule_at : ServiceData → Goal → Option HttpData
rule_at s g = (operation_at s g.operation).http

-- the type of a raw payload: its media type where that counts, else that of bytes or of text
abbrev pub usual_type : ShapeKind → List ℕ
usual_type table.Blob = codes "application/octet-stream"
usual_type kind = codes "text/plain"

abbrev pub type_or : Option (List ℕ) → List ℕ → List ℕ
type_or None usual = usual
type_or (Some told) usual = cond (is_media_type told) told usual

abbrev pub payload_type : TableData → ℕ → List ℕ
payload_type t k = type_or (media_type_at t k) (usual_type (kind_of t (member_place k)))

-- the type of a body that isn't empty
abbrev pub type_by : TableData → BodyPart → List ℕ
type_by t Document = json_type
type_by t Tree = json_type
type_by t (Raw k) = payload_type t k
type_by t Nothing = json_type

abbrev pub written_type : Bound → List ℕ
written_type b = type_by b.table (part_of b)

-- the status of an output, where none is bound, and of an error
abbrev pub code_of : Option HttpData → ℕ
code_of None = 200
code_of (Some h) = h.code

abbrev pub error_status : ErrorShape → ℕ
error_status e = unwrap_or e.status (fault_status e.client)

abbrev pub role_status : OperationData → Role → ℕ
role_status o the_input = 200
role_status o the_output = code_of o.http
role_status o (the_error e) = error_status (error_at o e)

abbrev pub usual_status : ServiceData → Goal → ℕ
usual_status s g = role_status (operation_at s g.operation) g.role

-- What is written of a value, as the code holds it, and the messages that it makes.
use Rattle.std.specs.Prelude.{◌≡◌, ◌++◌, ℕ, List, Option}
use Rattle.sm_shapes.specs.Values.{Val}
use Rattle.sm_http.specs.declared.message.Message.{Message}
use Rattle.sm_rest.specs.service.ServiceData.{HttpData}
use Rattle.sm_rest.specs.messages.WrittenHeads.{written_request, written_response}
use Rattle.sm_rest.specs.bind.BindingsView.{parts_data}
use Rattle.sm_rest.specs.bind.Roles.{Bound}
use Rattle.sm_rest.specs.bind_bodies.WrittenBodies.{content_bytes}
use Rattle.sm_rest.specs.bind_write.WrittenParts.{request_target, written_content, written_parts}
use Rattle.sm_rest.specs.RestGoals.{written_type}
use Rattle.sm_rest_write.specs.steps.Bodies.{bytes_of}
use Rattle.sm_rest_write.specs.steps.ToldFields.{fields_telling}
use Rattle.sm_rest_write.specs.declared.outline.Outline.{Outline}

pub record IsOutlineOf (b : Bound) (usual : ℕ) (v : Val) (o : Outline) : Type 0 where
  pub parts : parts_data o.parts ≡ written_parts b usual v
  pub body : bytes_of o.body ≡ content_bytes (written_content b v)
  pub content_type : o.content_type.now ≡ written_type b

-- the request by what `http` says, to a host
abbrev pub outline_request : HttpData → List ℕ → Outline → Message
outline_request h host o =
    written_request h.method (request_target h.uri (parts_data o.parts)) host o.content_type.now o.parts.fields.items (bytes_of o.body)

-- the response that tells an error by this name, if it is one
abbrev pub outline_response : Option (List ℕ) → Outline → Message
outline_response told o =
    written_response o.parts.status o.content_type.now (fields_telling told ++ o.parts.fields.items) (bytes_of o.body)

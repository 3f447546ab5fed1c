-- What a body of AWS JSON stands for that comes in pieces.
use Rattle.std.specs.Prelude.{ℕ, Bool, List, [], ◌∷◌, Option, None, Some}
use Rattle.sm_json.specs.Stands.{json_source}
use Rattle.sm_json.specs.declared.pieces.JsonReader.{JsonReader}
use Rattle.sm_shapes.specs.Fitting.{Test}
use Rattle.sm_http.specs.declared.message.Field.{Field}
use Rattle.sm_http.specs.declared.message.Head.{Head}
use Rattle.sm_http.specs.declared.message.Message.{Message}
use Rattle.sm_service.specs.ServiceData.{ServiceData}
use Rattle.sm_messages.specs.Begun.{BegunFor, BodyState, failed, fed, held}
use Rattle.sm_messages.specs.Goals.{Asked}
use Rattle.sm_messages.specs.Names.{error_field_name, told_by_head}
use Rattle.sm_messages.specs.WrittenHeads.{field_of, with_fields}
use Rattle.sm_awsjson.specs.Messages.{aws_convention, aws_form}
use Rattle.sm_awsjson.specs.declared.body.AwsBody.{AwsBody}
use Rattle.sm_awsjson.specs.declared.body.AwsBody.TheVariants.{Failed, Fed, Held}
use Rattle.sm_awsjson.specs.declared.version.AwsVersion.{AwsVersion}

abbrev pub aws_state : AwsBody → BodyState JsonReader
aws_state Failed = failed
aws_state (Held o m) = held o m
aws_state (Fed o r d) = fed o r d

-- it was begun for a message of this head, whose body is empty or not, and these bytes have come to it
abbrev pub AwsBegun : AwsVersion → ServiceData → Test → Asked → AwsBody → Head → Bool → List ℕ → Type 0
AwsBegun version s test asked body head empty bytes =
    BegunFor json_source aws_convention (aws_form version) s test asked head empty bytes (aws_state body)

-- what is kept of a head: its start, and the field by which it tells an error
abbrev pub kept_fields : Option (List ℕ) → List Field
kept_fields None = []
kept_fields (Some told) = field_of error_field_name told ∷ []

abbrev pub kept_message : Head → Message
kept_message head = with_fields head.start (kept_fields (told_by_head head)) []

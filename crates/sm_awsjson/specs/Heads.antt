-- The heads of AWS JSON 1.0 and 1.1 (Smithy 2.0, "AWS JSON 1.0 protocol", "AWS JSON 1.1 protocol"), and how they write the name of an error.
use Rattle.std.specs.Prelude.{◌≡◌, ◌<◌, ℕ, List, ◌∷◌, ◌++◌, Some, codes, length}
use Rattle.sm_bytes.specs.Ascii.{full_stop}
use Rattle.sm_ids.specs.TextParts.{name_part}
use Rattle.sm_http.specs.FieldValues.{only_value, values_named}
use Rattle.sm_http.specs.declared.message.Field.{Field}
use Rattle.sm_http.specs.declared.message.Head.{Head}
use Rattle.sm_http.specs.declared.message.Start.{Start}
use Rattle.sm_http.specs.declared.message.Start.TheVariants.{Request}
use Rattle.sm_service.specs.ServiceData.{ServiceData}
use Rattle.sm_messages.specs.Goals.{operation_at}
use Rattle.sm_messages.specs.WrittenHeads.{field_of}
use Rattle.sm_awsjson.specs.declared.version.AwsVersion.{AwsVersion}
use Rattle.sm_awsjson.specs.declared.version.AwsVersion.TheVariants.{V10, V11}

abbrev pub json_type : AwsVersion → List ℕ
json_type V10 = codes "application/x-amz-json-1.0"
json_type V11 = codes "application/x-amz-json-1.1"

-- `Service.Operation`
abbrev pub target_of : ServiceData → ℕ → List ℕ
target_of s o = s.name ++ full_stop ∷ (operation_at s o).name

abbrev pub target_name : List ℕ
target_name = codes "x-amz-target"

-- `POST /`, and one `x-amz-target`, that of the operation
pub record IsForOperation (s : ServiceData) (o : ℕ) (head : Head) : Type 0 where
  pub within : o < length s.operations
  pub start : Path Start head.start (Request (codes "POST") (codes "/"))
  pub target : only_value (values_named target_name head.fields) ≡ Some (target_of s o)

abbrev pub target_field : ServiceData → ℕ → Field
target_field s o = field_of target_name (target_of s o)

-- what is written under `__type` for an error of this id: the whole id, or its name
abbrev pub type_told : AwsVersion → List ℕ → List ℕ
type_told V10 id = id
type_told V11 id = name_part id

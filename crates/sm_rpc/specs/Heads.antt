-- The heads of Smithy RPC v2 CBOR (Smithy 2.0, "Smithy RPC v2 CBOR protocol"): each message has one field `smithy-protocol`. The name of an
-- error stands in the body alone, under `__type`.
use Rattle.std.specs.Prelude.{◌<◌, ℕ, Bool, false, List, ◌++◌, Option, None, Some, codes, length}
use Rattle.std.specs.Str.{bytes_eq}
use Rattle.sm_http.specs.FieldValues.{only_value, values_named}
use Rattle.sm_http.specs.declared.message.Field.{Field}
use Rattle.sm_http.specs.declared.message.Head.{Head}
use Rattle.sm_http.specs.declared.message.Start.{Start}
use Rattle.sm_http.specs.declared.message.Start.TheVariants.{Request}
use Rattle.sm_service.specs.ServiceData.{ServiceData}
use Rattle.sm_messages.specs.Goals.{operation_at}
use Rattle.sm_messages.specs.WrittenHeads.{field_of}

abbrev pub cbor_type : List ℕ
cbor_type = codes "application/cbor"

abbrev pub protocol_name : List ℕ
protocol_name = codes "smithy-protocol"

abbrev pub protocol_value : List ℕ
protocol_value = codes "rpc-v2-cbor"

abbrev pub is_protocol : Option (List ℕ) → Bool
is_protocol None = false
is_protocol (Some value) = bytes_eq value protocol_value

-- the one field of this name has this value, byte for byte
abbrev pub is_marked : Head → Bool
is_marked head = is_protocol (only_value (values_named protocol_name head.fields))

-- `/service/Service/operation/Operation`
abbrev pub path_of : ServiceData → ℕ → List ℕ
path_of s o = codes "/service/" ++ s.name ++ codes "/operation/" ++ (operation_at s o).name

-- `POST`, and the path as it is written: nothing is decoded, and no query stands behind it
pub record IsForOperation (s : ServiceData) (o : ℕ) (head : Head) : Type 0 where
  pub within : o < length s.operations
  pub start : Path Start head.start (Request (codes "POST") (path_of s o))

abbrev pub protocol_field : Field
protocol_field = field_of protocol_name protocol_value

abbrev pub accept_field : Field
accept_field = field_of (codes "accept") cbor_type

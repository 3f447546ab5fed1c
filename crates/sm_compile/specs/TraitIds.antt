-- The ids of the traits that tables are made from and that rules look at (Smithy 2.0, "Constraint traits", "Type refinement traits",
-- "Serialization and Protocol traits", "HTTP binding traits", "trait trait").
use Rattle.std.specs.Prelude.{ℕ, List, [], ◌∷◌, codes}
use Rattle.sm_model.specs.PreludeShapes.{api_id}

abbrev pub required_id : List ℕ
required_id = api_id (codes "required")

abbrev pub default_id : List ℕ
default_id = api_id (codes "default")

abbrev pub sparse_id : List ℕ
sparse_id = api_id (codes "sparse")

abbrev pub unique_items_id : List ℕ
unique_items_id = api_id (codes "uniqueItems")

abbrev pub length_id : List ℕ
length_id = api_id (codes "length")

abbrev pub range_id : List ℕ
range_id = api_id (codes "range")

abbrev pub pattern_id : List ℕ
pattern_id = api_id (codes "pattern")

abbrev pub enum_value_id : List ℕ
enum_value_id = api_id (codes "enumValue")

abbrev pub timestamp_format_id : List ℕ
timestamp_format_id = api_id (codes "timestampFormat")

abbrev pub json_name_id : List ℕ
json_name_id = api_id (codes "jsonName")

abbrev pub media_type_id : List ℕ
media_type_id = api_id (codes "mediaType")

abbrev pub streaming_id : List ℕ
streaming_id = api_id (codes "streaming")

abbrev pub readonly_id : List ℕ
readonly_id = api_id (codes "readonly")

abbrev pub idempotent_id : List ℕ
idempotent_id = api_id (codes "idempotent")

abbrev pub input_id : List ℕ
input_id = api_id (codes "input")

abbrev pub output_id : List ℕ
output_id = api_id (codes "output")

abbrev pub error_id : List ℕ
error_id = api_id (codes "error")

abbrev pub idempotency_token_id : List ℕ
idempotency_token_id = api_id (codes "idempotencyToken")

abbrev pub http_id : List ℕ
http_id = api_id (codes "http")

abbrev pub http_error_id : List ℕ
http_error_id = api_id (codes "httpError")

abbrev pub http_label_id : List ℕ
http_label_id = api_id (codes "httpLabel")

abbrev pub http_query_id : List ℕ
http_query_id = api_id (codes "httpQuery")

abbrev pub http_query_params_id : List ℕ
http_query_params_id = api_id (codes "httpQueryParams")

abbrev pub http_header_id : List ℕ
http_header_id = api_id (codes "httpHeader")

abbrev pub http_prefix_headers_id : List ℕ
http_prefix_headers_id = api_id (codes "httpPrefixHeaders")

abbrev pub http_payload_id : List ℕ
http_payload_id = api_id (codes "httpPayload")

abbrev pub http_response_code_id : List ℕ
http_response_code_id = api_id (codes "httpResponseCode")

abbrev pub trait_id : List ℕ
trait_id = api_id (codes "trait")

abbrev pub suppress_id : List ℕ
suppress_id = api_id (codes "suppress")

abbrev pub mixin_id : List ℕ
mixin_id = api_id (codes "mixin")

-- the traits that bind a member to a part of an HTTP message
abbrev pub binding_ids : List (List ℕ)
binding_ids = http_label_id ∷ http_query_id ∷ http_query_params_id ∷ http_header_id ∷ http_prefix_headers_id ∷ http_payload_id
    ∷ http_response_code_id ∷ []

-- The members of an input, an output or an error as HTTP carries them (Smithy 2.0, "HTTP binding traits"): which binding counts for each,
-- and what stands in the document.
use Rattle.std.specs.Prelude.{◌||◌, ℕ, Bool, true, false, not, List, [], ◌∷◌, Option, None, Some, is_some, map, codes}
use Rattle.std.specs.List.{filter, filter_map, list_any}
use Rattle.std.specs.Str.{bytes_eq, str_to_ascii_lowercase}
use Rattle.sm_shapes.specs.TableData.{BindingData, TableData, binding_at, label, members_at, query, query_params, header, prefix_headers, payload}
use Rattle.sm_shapes.specs.TableData.{response_code}
use Rattle.sm_rules.specs.Bindings.{BoundSide}
use Rattle.sm_service.specs.WireMembers.{counted_binding, header_of, query_of}

-- a shape on a side; in an input, the keys that the literals of the pattern name
pub record Bound : Type 0 where
  pub table : TableData
  pub side : BoundSide
  pub shape : ℕ
  pub literals : List (List ℕ)

-- a binding is that of a payload, which counts on each side
abbrev pub is_bound_payload : Option BindingData → Bool
is_bound_payload None = false
is_bound_payload (Some payload) = true
is_bound_payload (Some label) = false
is_bound_payload (Some (query name)) = false
is_bound_payload (Some query_params) = false
is_bound_payload (Some (header name)) = false
is_bound_payload (Some (prefix_headers prefix)) = false
is_bound_payload (Some response_code) = false

-- without such keys
abbrev pub bound_on : TableData → BoundSide → ℕ → Bound
bound_on t side s = record { table = t; side = side; shape = s; literals = [] }

abbrev pub bound_members : Bound → List ℕ
bound_members b = members_at b.table b.shape

-- the binding that counts for a member there: one with a binding of another side stands in the document
abbrev pub binding_on : Bound → ℕ → Option BindingData
binding_on b k = counted_binding b.side (binding_at b.table k)

abbrev pub is_in_document : Bound → ℕ → Bool
is_in_document b k = not (is_some (binding_on b k))

abbrev pub document_members : Bound → List ℕ
document_members b = filter (is_in_document b) (bound_members b)

abbrev pub has_document : Bound → Bool
has_document b = list_any (is_in_document b) (bound_members b)

-- the names of queries, of headers in lower case, and the prefixes of headers in lower case
abbrev pub query_names : Bound → List (List ℕ)
query_names b = filter_map (λ k. query_of (binding_on b k)) (bound_members b)

abbrev pub header_names : Bound → List (List ℕ)
header_names b = map str_to_ascii_lowercase (filter_map (λ k. header_of (binding_on b k)) (bound_members b))

abbrev pub is_among : List (List ℕ) → List ℕ → Bool
is_among names name = list_any (bytes_eq name) names

-- a key of a query that no member of the map has: a literal or another member names it
abbrev pub is_taken_key : Bound → List ℕ → Bool
is_taken_key b key = is_among b.literals key || is_among (query_names b) key

-- names of fields that mean something else, whatever the prefix
abbrev pub reserved_names : List (List ℕ)
reserved_names =
    codes "accept" ∷ codes "connection" ∷ codes "content-encoding" ∷ codes "content-length" ∷ codes "content-type" ∷ codes "expect"
    ∷ codes "host" ∷ codes "keep-alive" ∷ codes "smithy-protocol" ∷ codes "te" ∷ codes "trailer" ∷ codes "transfer-encoding"
    ∷ codes "upgrade" ∷ codes "x-amz-target" ∷ codes "x-amzn-errortype" ∷ []

-- a field's name in lower case that no map of prefix headers has
abbrev pub is_taken_name : Bound → List ℕ → Bool
is_taken_name b name = is_among reserved_names name || is_among (header_names b) name

-- no binding of a member counts there
abbrev pub is_unbound_on : TableData → BoundSide → ℕ → Bool
is_unbound_on t side k = not (is_some (counted_binding side (binding_at t k)))

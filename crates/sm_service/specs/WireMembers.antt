-- The members of an input, an output or an error as HTTP bindings see them (Smithy 2.0, "HTTP binding traits"): names, bindings, and of the
-- values no more than a binding asks. A table shows such a list, and so does the graph of which it is made.
use Rattle.std.specs.Prelude.{◌&&◌, ◌||◌, ℕ, Bool, true, false, not, List, [], ◌∷◌, Option, Some, None, cond, is_some, map}
use Rattle.std.specs.List.{list_all, list_any}
use Rattle.std.specs.Str.{bytes_eq}
use Rattle.sm_shapes.specs.TableData.{BindingData, TableData, label, query, query_params, header, prefix_headers, payload, response_code}
use Rattle.sm_shapes.specs.TableData.{binding_at, kind_at, members_at, name_at, required_at, sparse_at, target_at}
use Rattle.sm_shapes.specs.declared.kinds.ShapeKind.{ShapeKind}
use Rattle.sm_shapes.specs.declared.kinds.ShapeKind.TheVariants as table
use Rattle.sm_rules.specs.Bindings.{BindingTrait, BoundSide, a_header, a_label, a_payload, a_query, a_response_code, binding_id}
use Rattle.sm_rules.specs.Bindings.{bindings_of, some_prefix_headers, some_query_params}

-- of a shape: its kind, whether null may stand in it, and the kinds of its members' targets
pub record InnerSeen : Type 0 where
  pub kind : ShapeKind
  pub sparse : Bool
  pub inner : List ShapeKind

-- the same of a member's target, with what stands in it
pub record TargetSeen : Type 0 where
  pub kind : ShapeKind
  pub sparse : Bool
  pub inner : List InnerSeen

pub record WireMember : Type 0 where
  pub name : List ℕ
  pub binding : Option BindingData
  pub required : Bool
  pub target : TargetSeen

-- the members of a shape of a table
abbrev pub inner_at : TableData → ℕ → InnerSeen
inner_at t s = record { kind = kind_at t s; sparse = sparse_at t s; inner = map (λ k. kind_at t (target_at t k)) (members_at t s) }

abbrev pub target_seen_at : TableData → ℕ → TargetSeen
target_seen_at t s = record { kind = kind_at t s; sparse = sparse_at t s; inner = map (λ k. inner_at t (target_at t k)) (members_at t s) }

abbrev pub wire_member_at : TableData → ℕ → WireMember
wire_member_at t k = record {
  name = name_at t k;
  binding = binding_at t k;
  required = required_at t k;
  target = target_seen_at t (target_at t k);
}

abbrev pub wire_members : TableData → ℕ → List WireMember
wire_members t s = map (wire_member_at t) (members_at t s)

-- a member with this binding carries this trait
abbrev pub trait_bound : BindingData → BindingTrait
trait_bound label = a_label
trait_bound (query name) = a_query
trait_bound query_params = some_query_params
trait_bound (header name) = a_header
trait_bound (prefix_headers prefix) = some_prefix_headers
trait_bound payload = a_payload
trait_bound response_code = a_response_code

abbrev pub is_bound_by : Option BindingData → BindingTrait → Bool
is_bound_by None wanted = false
is_bound_by (Some b) wanted = bytes_eq (binding_id wanted) (binding_id (trait_bound b))

-- the binding that counts on a side; a member with another one stands in the document there
abbrev pub counted_binding : BoundSide → Option BindingData → Option BindingData
counted_binding side b = cond (list_any (is_bound_by b) (bindings_of side)) b None

-- in the document; in the body: there, or as the payload
abbrev pub stands_in_document : BoundSide → WireMember → Bool
stands_in_document side m = not (is_some (counted_binding side m.binding))

abbrev pub stands_in_body : BoundSide → WireMember → Bool
stands_in_body side m = is_bound_by m.binding a_payload || stands_in_document side m

-- the names on the wire, as they are written
abbrev pub header_of : Option BindingData → Option (List ℕ)
header_of None = None
header_of (Some (header name)) = Some name
header_of (Some label) = None
header_of (Some (query name)) = None
header_of (Some query_params) = None
header_of (Some (prefix_headers prefix)) = None
header_of (Some payload) = None
header_of (Some response_code) = None

abbrev pub query_of : Option BindingData → Option (List ℕ)
query_of None = None
query_of (Some (query name)) = Some name
query_of (Some label) = None
query_of (Some query_params) = None
query_of (Some (header name)) = None
query_of (Some (prefix_headers prefix)) = None
query_of (Some payload) = None
query_of (Some response_code) = None

abbrev pub prefix_of : Option BindingData → Option (List ℕ)
prefix_of None = None
prefix_of (Some (prefix_headers prefix)) = Some prefix
prefix_of (Some label) = None
prefix_of (Some (query name)) = None
prefix_of (Some query_params) = None
prefix_of (Some (header name)) = None
prefix_of (Some payload) = None
prefix_of (Some response_code) = None

-- kinds of values
abbrev pub is_string_kind : ShapeKind → Bool
is_string_kind table.Text = true
is_string_kind kind = false

abbrev pub is_integer_kind : ShapeKind → Bool
is_integer_kind table.Integer = true
is_integer_kind kind = false

abbrev pub is_list_kind : ShapeKind → Bool
is_list_kind table.List = true
is_list_kind kind = false

abbrev pub is_map_kind : ShapeKind → Bool
is_map_kind table.Map = true
is_map_kind kind = false

-- whose values one text of a message spells
abbrev pub is_one_text_kind : ShapeKind → Bool
is_one_text_kind table.Text = true
is_one_text_kind table.Enum = true
is_one_text_kind table.Boolean = true
is_one_text_kind table.Byte = true
is_one_text_kind table.Short = true
is_one_text_kind table.Integer = true
is_one_text_kind table.Long = true
is_one_text_kind table.IntEnum = true
is_one_text_kind table.Timestamp = true
is_one_text_kind kind = false

-- that a payload may be; that a list or a map is none is told where an operation is served
abbrev pub is_payload_kind : ShapeKind → Bool
is_payload_kind table.Blob = true
is_payload_kind table.Text = true
is_payload_kind table.Enum = true
is_payload_kind table.Structure = true
is_payload_kind table.Union = true
is_payload_kind table.List = true
is_payload_kind table.Map = true
is_payload_kind kind = false

-- such a value, or a list of them that isn't sparse
abbrev pub is_one_or_list_of : (ShapeKind → Bool) → InnerSeen → Bool
is_one_or_list_of test p = test p.kind || (is_list_kind p.kind && (not p.sparse && list_all test p.inner))

abbrev pub inner_of : TargetSeen → InnerSeen
inner_of t = record { kind = t.kind; sparse = t.sparse; inner = map (λ p. p.kind) t.inner }

-- a map, which isn't sparse, from strings to such values
abbrev pub have_string_keys : (InnerSeen → Bool) → List InnerSeen → Bool
have_string_keys test (key ∷ value ∷ []) = is_string_kind key.kind && test value
have_string_keys test inner = false

abbrev pub is_map_of : (InnerSeen → Bool) → TargetSeen → Bool
is_map_of test t = is_map_kind t.kind && (not t.sparse && have_string_keys test t.inner)

-- the targets of each binding
abbrev pub may_be_bound : BindingData → TargetSeen → Bool
may_be_bound label t = is_one_text_kind t.kind
may_be_bound (query name) t = is_one_or_list_of is_one_text_kind (inner_of t)
may_be_bound query_params t = is_map_of (is_one_or_list_of is_string_kind) t
may_be_bound (header name) t = is_one_or_list_of is_one_text_kind (inner_of t)
may_be_bound (prefix_headers prefix) t = is_map_of (λ p. is_string_kind p.kind) t
may_be_bound payload t = is_payload_kind t.kind
may_be_bound response_code t = is_integer_kind t.kind

-- What HTTP bindings ask of a service besides (Smithy 2.0, "HTTP bindings"): of its operations with `http` alone, by the lists of members
-- that its table shows. Another operation may bind one header twice. What bindings may target is said of operations that are served alone,
-- of which alone it is asked; the rule says it of each member whose target reaches no shape of a type left out.
use Rattle.std.specs.Prelude.{◌≡◌, ◌⊎◌, ◌≤◌, ◌++◌, ℕ, Bool, true, false, List, [], Option, Some, None, filter_map, map}
use Rattle.std.specs.List.{Contains, count_by}
use Rattle.std.specs.Str.{str_to_ascii_lowercase}
use Rattle.sm_shapes.specs.Names.{AllDiffer}
use Rattle.sm_shapes.specs.TableData.{BindingData, TableData, label}
use Rattle.sm_shapes.specs.declared.kinds.ShapeKind.TheVariants.{Text}
use Rattle.sm_compile.specs.declared.compiled.Served.TheVariants.{Yes}
use Rattle.sm_uri.specs.UriPattern.{IsUri, UriSaid, greedy_names, label_names}
use Rattle.sm_rules.specs.Bindings.{BindingTrait, BoundSide, a_payload, a_response_code, an_error, an_input, an_output}
use Rattle.sm_rules.specs.Bindings.{some_prefix_headers, some_query_params}
use Rattle.sm_service.specs.ServiceData.{HttpData, OperationData, ServiceData}
use Rattle.sm_service.specs.WireMembers.{WireMember, counted_binding, header_of, is_bound_by, may_be_bound, prefix_of, query_of}
use Rattle.sm_service.specs.WireMembers.{stands_in_body, stands_in_document, wire_members}
use Rattle.sm_service.specs.declared.error.ErrorShape.{ErrorShape}

-- the names of headers, queries and prefixes of these members, as they are written
abbrev pub headers_among : List WireMember → List (List ℕ)
headers_among ms = filter_map (λ m. header_of m.binding) ms

abbrev pub queries_among : List WireMember → List (List ℕ)
queries_among ms = filter_map (λ m. query_of m.binding) ms

abbrev pub prefixes_among : List WireMember → List (List ℕ)
prefixes_among ms = filter_map (λ m. prefix_of m.binding) ms

-- a header's name begins with a prefix that isn't empty, without case
abbrev pub BeginsWithSome : List ℕ → List ℕ → Type 0
BeginsWithSome header prefix =
    (prefix ≡ [] → ⊥) × ((more : List ℕ) × (str_to_ascii_lowercase header ≡ str_to_ascii_lowercase prefix ++ more))

-- at most one of these members carries the trait
abbrev pub IsBoundOnce : BindingTrait → List WireMember → Type 0
IsBoundOnce wanted ms = count_by (λ m. is_bound_by m.binding wanted) ms ≤ 1

-- a payload has the body for itself
abbrev pub IsBodyAlone : BoundSide → List WireMember → Type 0
IsBodyAlone side ms =
    (m other : WireMember) → Contains ms m → Contains ms other → is_bound_by m.binding a_payload ≡ true
    → stands_in_document side other ≡ true → ⊥

-- the members of a shape on a side: each part of a message is one member's
pub record HaveOwnParts (side : BoundSide) (ms : List WireMember) : Type 0 where
  pub headers : AllDiffer (map str_to_ascii_lowercase (headers_among ms))
  pub prefixes : (name prefix : List ℕ) → Contains (headers_among ms) name → Contains (prefixes_among ms) prefix
      → BeginsWithSome name prefix → ⊥
  pub one_prefix : IsBoundOnce some_prefix_headers ms
  pub one_params : IsBoundOnce some_query_params ms
  pub one_payload : IsBoundOnce a_payload ms
  pub one_code : IsBoundOnce a_response_code ms
  pub alone : IsBodyAlone side ms

-- the names of an input's queries
pub record HaveOwnQueries (ms : List WireMember) : Type 0 where
  pub differ : AllDiffer (queries_among ms)
  pub filled : (name : List ℕ) → Contains (queries_among ms) name → name ≡ [] → ⊥

-- labels and the members of an input that are bound to one are the same by name; these members are required, and one with a greedy label
-- is a string
pub record AreLabelled (u : UriSaid) (ms : List WireMember) : Type 0 where
  pub members : (name : List ℕ) → Contains (label_names u.segments) name
      → (m : WireMember) × Contains ms m × (m.name ≡ name) × (m.binding ≡ Some label)
  pub labels : (m : WireMember) → Contains ms m → m.binding ≡ Some label → Contains (label_names u.segments) m.name
  pub required : (m : WireMember) → Contains ms m → m.binding ≡ Some label → m.required ≡ true
  pub greedy : (m : WireMember) → Contains ms m → m.binding ≡ Some label → Contains (greedy_names u.segments) m.name
      → m.target.kind ≡ Text

-- a status of success, and one of a body where the output has members in the body
pub record IsSuccessCode (output : List WireMember) (code : ℕ) : Type 0 where
  pub least : 200 ≤ code
  pub most : code ≤ 299
  pub body : (m : WireMember) → Contains output m → stands_in_body an_output m ≡ true → ((code ≡ 204) ⊎ (code ≡ 205)) → ⊥

-- the status of an error, where it has one, is its side's
abbrev pub IsStatusOf : Bool → Option ℕ → Type 0
IsStatusOf client None = Unit {0}
IsStatusOf true (Some status) = (400 ≤ status) × (status ≤ 499)
IsStatusOf false (Some status) = (500 ≤ status) × (status ≤ 599)

-- each binding that counts on a side has a target that it may have
abbrev pub HaveTargets : BoundSide → List WireMember → Type 0
HaveTargets side ms =
    (m : WireMember) (b : BindingData) → Contains ms m → counted_binding side m.binding ≡ Some b → may_be_bound b m.target ≡ true

pub record AreBoundRight (t : TableData) (o : OperationData) : Type 0 where
  pub input : HaveTargets an_input (wire_members t o.input)
  pub output : HaveTargets an_output (wire_members t o.output)
  pub errors : (e : ErrorShape) → Contains o.errors e → HaveTargets an_error (wire_members t e.shape)

-- an operation with this rule
pub record IsHttpServable (t : TableData) (o : OperationData) (h : HttpData) : Type 0 where
  pub uri : IsUri h.uri
  pub labels : AreLabelled h.uri (wire_members t o.input)
  pub code : IsSuccessCode (wire_members t o.output) h.code
  pub queries : HaveOwnQueries (wire_members t o.input)
  pub input : HaveOwnParts an_input (wire_members t o.input)
  pub output : HaveOwnParts an_output (wire_members t o.output)
  pub errors : (e : ErrorShape) → Contains o.errors e → HaveOwnParts an_error (wire_members t e.shape)
  pub statuses : (e : ErrorShape) → Contains o.errors e → IsStatusOf e.client e.status
  pub targets : o.served ≡ Yes → AreBoundRight t o

abbrev pub HttpServable : ServiceData → Type 0
HttpServable s = (o : OperationData) (h : HttpData) → Contains s.operations o → o.http ≡ Some h → IsHttpServable s.table o h

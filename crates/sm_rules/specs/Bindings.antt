-- Which members HTTP binds to a part of a message, and what they may target there (Smithy 2.0, "HTTP bindings"). Bindings count on the
-- members of an input, an output or an error of an operation with `http`, and of an error of a service whose closure has such an
-- operation.
use Rattle.std.specs.Prelude.{◌≡◌, ◌⊎◌, ◌&&◌, ◌||◌, ℕ, Bool, true, false, not, List, [], ◌∷◌, Option, Some, None}
use Rattle.std.specs.FinMap as fin
use Rattle.std.specs.List.{list_all, list_any}
use Rattle.sm_model.specs.Graphs.{NodeMap, Entry, shape_entry, member_entry, ShapeEntry, GraphMaps}
use Rattle.sm_model.specs.Relations.{IsRelated}
use Rattle.sm_model.specs.declared.kind.Kind.{Kind}
use Rattle.sm_model.specs.declared.kind.Kind.TheVariants as model
use Rattle.sm_model.specs.declared.relation.Relation.TheVariants.{Input, Output, Error}
use Rattle.sm_compile.specs.TraitIds.{http_id, sparse_id, http_label_id, http_query_id, http_query_params_id, http_header_id}
use Rattle.sm_compile.specs.TraitIds.{http_prefix_headers_id, http_payload_id, http_response_code_id}
use Rattle.sm_rules.specs.TraitRows.{is_kind, is_among}
use Rattle.sm_rules.specs.Words.{IsOwnShape, IsInClosure, has_trait}

-- the side of a message: a request has an operation's input; a response its output, or an error
pub data BoundSide : Type 0 where
  an_input : BoundSide
  an_output : BoundSide
  an_error : BoundSide

pub data BindingTrait : Type 0 where
  a_label : BindingTrait
  a_query : BindingTrait
  some_query_params : BindingTrait
  a_header : BindingTrait
  some_prefix_headers : BindingTrait
  a_payload : BindingTrait
  a_response_code : BindingTrait

abbrev pub binding_id : BindingTrait → List ℕ
binding_id a_label = http_label_id
binding_id a_query = http_query_id
binding_id some_query_params = http_query_params_id
binding_id a_header = http_header_id
binding_id some_prefix_headers = http_prefix_headers_id
binding_id a_payload = http_payload_id
binding_id a_response_code = http_response_code_id

-- the bindings of each side; what has none of them stands in the document
abbrev pub bindings_of : BoundSide → List BindingTrait
bindings_of an_input = a_label ∷ a_query ∷ some_query_params ∷ a_header ∷ some_prefix_headers ∷ a_payload ∷ []
bindings_of an_output = a_header ∷ some_prefix_headers ∷ a_payload ∷ a_response_code ∷ []
bindings_of an_error = a_header ∷ some_prefix_headers ∷ a_payload ∷ []

abbrev pub has_binding : NodeMap → BindingTrait → Bool
has_binding traits binding = has_trait (binding_id binding) traits

abbrev pub is_in_document : BoundSide → NodeMap → Bool
is_in_document side traits = not (list_any (has_binding traits) (bindings_of side))

-- in the body: in the document, or as the payload
abbrev pub is_in_body : BoundSide → NodeMap → Bool
is_in_body side traits = has_binding traits a_payload || is_in_document side traits

-- an operation with `http`, whatever its value
pub record IsHttpOperation (g : GraphMaps) (id : List ℕ) : Type 0 where
  pub s : ShapeEntry
  pub own : IsOwnShape g id s
  pub kind : s.kind ≡ model.Operation
  pub http : has_trait http_id s.traits ≡ true

abbrev pub IsErrorOfService : GraphMaps → List ℕ → Type 0
IsErrorOfService g id =
    (service operation : List ℕ) × IsInClosure g service operation × IsHttpOperation g operation × IsRelated Error g service id

-- what rules on bindings look at
abbrev pub IsBound : GraphMaps → BoundSide → List ℕ → Type 0
IsBound g an_input id = (operation : List ℕ) × IsHttpOperation g operation × IsRelated Input g operation id
IsBound g an_output id = (operation : List ℕ) × IsHttpOperation g operation × IsRelated Output g operation id
IsBound g an_error id =
    ((operation : List ℕ) × IsHttpOperation g operation × IsRelated Error g operation id) ⊎ IsErrorOfService g id

-- tests of what stands under an id: what isn't there passes
abbrev pub passes : (Kind → Bool) → Option Entry → Bool
passes test None = true
passes test (Some (shape_entry s)) = test s.kind
passes test (Some (member_entry m)) = false

-- the target of a member passes a test
abbrev pub target_passes : (Option Entry → Bool) → GraphMaps → Option Entry → Bool
target_passes test g None = true
target_passes test g (Some (member_entry m)) = test (fin.get g.shapes m.target)
target_passes test g (Some (shape_entry s)) = true

abbrev pub targets : (Option Entry → Bool) → GraphMaps → List ℕ → Bool
targets test g id = target_passes test g (fin.get g.shapes id)

-- values that one text of a message spells
abbrev pub text_kinds_of_http : List Kind
text_kinds_of_http = model.Text ∷ model.Enum ∷ model.Boolean ∷ model.Byte ∷ model.Short ∷ model.Integer ∷ model.Long ∷ model.IntEnum
    ∷ model.Timestamp ∷ []

abbrev pub is_one_text : Kind → Bool
is_one_text kind = is_among text_kinds_of_http kind

abbrev pub is_string : Kind → Bool
is_string kind = is_kind model.Text kind

-- a list of such values that isn't sparse
abbrev pub is_list_of : GraphMaps → (Kind → Bool) → Option Entry → Bool
is_list_of g test None = true
is_list_of g test (Some (member_entry m)) = false
is_list_of g test (Some (shape_entry s)) =
    is_kind model.List s.kind && (not (has_trait sparse_id s.traits) && list_all (targets (passes test) g) s.members)

-- and one of them, or such a list
abbrev pub is_one_or_list : GraphMaps → (Kind → Bool) → Option Entry → Bool
is_one_or_list g test e = passes test e || is_list_of g test e

-- a map, which isn't sparse, from strings to such values
abbrev pub have_strings_to : GraphMaps → (Option Entry → Bool) → List (List ℕ) → Bool
have_strings_to g test (key ∷ value ∷ []) = targets (passes is_string) g key && targets test g value
have_strings_to g test members = true

abbrev pub is_map_to : GraphMaps → (Option Entry → Bool) → Option Entry → Bool
is_map_to g test None = true
is_map_to g test (Some (member_entry m)) = false
is_map_to g test (Some (shape_entry s)) =
    is_kind model.Map s.kind && (not (has_trait sparse_id s.traits) && have_strings_to g test s.members)

-- a payload; that a list or a map is none is told where it is served
abbrev pub is_payload : Kind → Bool
is_payload kind = is_among (model.Blob ∷ model.Text ∷ model.Enum ∷ model.Structure ∷ model.Union ∷ model.List ∷ model.Map ∷ []) kind

-- the targets of each binding
abbrev pub allows_target : GraphMaps → BindingTrait → Option Entry → Bool
allows_target g a_label e = passes is_one_text e
allows_target g a_query e = is_one_or_list g is_one_text e
allows_target g some_query_params e = is_map_to g (is_one_or_list g is_string) e
allows_target g a_header e = is_one_or_list g is_one_text e
allows_target g some_prefix_headers e = is_map_to g (passes is_string) e
allows_target g a_payload e = passes is_payload e
allows_target g a_response_code e = passes (is_kind model.Integer) e

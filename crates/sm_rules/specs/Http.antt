-- The rules on HTTP bindings and methods (Smithy 2.0, "HTTP bindings", "http trait", "httpError trait").
use Rattle.std.specs.Prelude.{◌≡◌, ◌⊎◌, ◌&&◌, ◌||◌, ℕ, ℤ, pos, int_le, Bool, true, false, not, List, [], Option, Some, None, codes, ◌∷◌}
use Rattle.std.specs.FinMap as fin
use Rattle.std.specs.Fmt.{signed_decimal}
use Rattle.std.specs.List.{Contains, list_any}
use Rattle.std.specs.Ordering.{int_eq}
use Rattle.std.specs.Str.{bytes_eq}
use Rattle.std.specs.declared.cmp.Ordering.TheVariants.{Less}
use Rattle.sm_model.specs.Graphs.{text_cmp, shape_entry, ShapeEntry, MemberEntry, GraphMaps, member_id}
use Rattle.sm_model.specs.Relations.{HasEntry, IsRelated}
use Rattle.sm_model.specs.declared.kind.Kind.TheVariants.{Structure}
use Rattle.sm_model.specs.declared.relation.Relation.TheVariants.{Input, Output}
use Rattle.sm_shapes.specs.declared.kinds.ShapeKind.TheVariants.{LeftOut}
use Rattle.sm_compile.specs.Kinds.{has_values, table_kind}
use Rattle.sm_compile.specs.Reached.{IsReached}
use Rattle.sm_compile.specs.TraitIds.{http_id, http_payload_id, http_error_id, error_id, required_id}
use Rattle.sm_compile.specs.TraitNodes.{number_of, text_of}
use Rattle.sm_uri.specs.UriPattern.{UriSaid, UriText, IsUriText, label_names, greedy_names}
use Rattle.sm_uri.specs.UriRoutes.{IsSameRoute}
use Rattle.sm_rules.specs.Bindings.{BoundSide, an_output, BindingTrait, bindings_of, binding_id, has_binding, a_label, a_payload}
use Rattle.sm_rules.specs.Bindings.{is_in_document, is_in_body, IsBound, allows_target, passes, is_string}
use Rattle.sm_rules.specs.Words.{IsOwnOfKind, IsMemberOf, IsOperation, IsInClosure, read_trait, field_in, has_trait}

-- what `http` of an operation says, where it reads
abbrev pub method_of : GraphMaps → List ℕ → Option (List ℕ)
method_of g operation = text_of (field_in (codes "method") (read_trait g operation http_id))

abbrev pub uri_text_of : GraphMaps → List ℕ → Option (List ℕ)
uri_text_of g operation = text_of (field_in (codes "uri") (read_trait g operation http_id))

abbrev pub success_code_of : GraphMaps → List ℕ → Option ℤ
success_code_of g operation = number_of (field_in (codes "code") (read_trait g operation http_id))

pub record HasUri (g : GraphMaps) (operation : List ℕ) (u : UriSaid) : Type 0 where
  pub is_operation : IsOperation g operation
  pub t : List ℕ
  pub said : uri_text_of g operation ≡ Some t
  pub spells : UriText u t

-- Http.Uri: the `uri` is no pattern; nothing more is told
pub record HasNoUri (g : GraphMaps) (operation detail : List ℕ) : Type 0 where
  pub is_operation : IsOperation g operation
  pub t : List ℕ
  pub said : uri_text_of g operation ≡ Some t
  pub none : IsUriText t → ⊥
  pub detail_is : detail ≡ []

-- an operation with its pattern and its input, which is there
pub record TakesLabels (g : GraphMaps) (operation : List ℕ) (u : UriSaid) (input : List ℕ) : Type 0 where
  pub uri : HasUri g operation u
  pub input_of : IsRelated Input g operation input

-- a member of the input that is bound to a label. What is no shape has no members
pub record IsLabelled (g : GraphMaps) (input : List ℕ) (name : List ℕ) (m : MemberEntry) : Type 0 where
  pub s : ShapeEntry
  pub member : IsMemberOf g input s (member_id input name) m
  pub bound : has_binding m.traits a_label ≡ true

abbrev pub HasLabelled : GraphMaps → List ℕ → List ℕ → Type 0
HasLabelled g input name = (m : MemberEntry) × IsLabelled g input name m

-- Http.Labels: a label without a member that is bound to it, or the other way round; such a member that isn't required; one for a
-- greedy label that targets another shape than a string. Told is the name
pub data HasWrongLabel (g : GraphMaps) (operation name : List ℕ) : Type 0 where
  no_member : (u : UriSaid) (input : List ℕ) → TakesLabels g operation u input → Contains (label_names u.segments) name
      → (HasLabelled g input name → ⊥) → HasWrongLabel g operation name
  no_label : (u : UriSaid) (input : List ℕ) → TakesLabels g operation u input → HasLabelled g input name
      → (Contains (label_names u.segments) name → ⊥) → HasWrongLabel g operation name
  not_required : (u : UriSaid) (input : List ℕ) → TakesLabels g operation u input → (m : MemberEntry)
      → IsLabelled g input name m → has_trait required_id m.traits ≡ false → HasWrongLabel g operation name
  greedy_target : (u : UriSaid) (input : List ℕ) → TakesLabels g operation u input → (m : MemberEntry)
      → IsLabelled g input name m → Contains (greedy_names u.segments) name → passes is_string (fin.get g.shapes m.target) ≡ false
      → HasWrongLabel g operation name

-- members and targets lead to a shape of a type whose values aren't carried
abbrev pub ReachesLeftOutValue : GraphMaps → List ℕ → Type 0
ReachesLeftOutValue g id =
    (left : List ℕ) × (s : ShapeEntry) × IsReached g id left × HasEntry g left (shape_entry s)
    × (table_kind s.kind ≡ LeftOut) × (has_values s.kind ≡ true)

-- a member on a side of messages
pub record StandsOn (g : GraphMaps) (side : BoundSide) (id shape : List ℕ) (s : ShapeEntry) (m : MemberEntry) : Type 0 where
  pub bound : IsBound g side shape
  pub member : IsMemberOf g shape s id m

-- its binding doesn't allow its target. Targets that reach a type left out aren't looked at
pub record HasWrongTarget (g : GraphMaps) (id : List ℕ) (binding : BindingTrait) : Type 0 where
  pub side : BoundSide
  pub shape : List ℕ
  pub s : ShapeEntry
  pub m : MemberEntry
  pub stands : StandsOn g side id shape s m
  pub counts : Contains (bindings_of side) binding
  pub has : has_binding m.traits binding ≡ true
  pub carried : ReachesLeftOutValue g m.target → ⊥
  pub wrong : allows_target g binding (fin.get g.shapes m.target) ≡ false

-- it stands in the document, and another member of the shape is the payload
pub record StandsBesidePayload (g : GraphMaps) (id : List ℕ) : Type 0 where
  pub side : BoundSide
  pub shape : List ℕ
  pub s : ShapeEntry
  pub m : MemberEntry
  pub stands : StandsOn g side id shape s m
  pub in_document : is_in_document side m.traits ≡ true
  pub other : List ℕ
  pub payload : MemberEntry
  pub other_member : IsMemberOf g shape s other payload
  pub is_payload : has_binding payload.traits a_payload ≡ true

-- Http.Target: told is the binding's trait, or `httpPayload`
pub data IsBoundWrongly (g : GraphMaps) (id detail : List ℕ) : Type 0 where
  wrong_target : (binding : BindingTrait) → HasWrongTarget g id binding → detail ≡ binding_id binding → IsBoundWrongly g id detail
  beside_payload : StandsBesidePayload g id → detail ≡ http_payload_id → IsBoundWrongly g id detail

-- Http.Routes: a smaller operation of one closure has the same method, and a pattern that is equal but for the names of labels; told is
-- its id
pub record HasSameRoute (g : GraphMaps) (operation smaller : List ℕ) : Type 0 where
  pub service : List ℕ
  pub inside : IsInClosure g service operation
  pub smaller_inside : IsInClosure g service smaller
  pub order : text_cmp smaller operation ≡ Less
  pub u : UriSaid
  pub uri : HasUri g operation u
  pub v : UriSaid
  pub smaller_uri : HasUri g smaller v
  pub same : IsSameRoute u v
  pub methods : method_of g operation ≡ method_of g smaller

-- codes of one hundred
abbrev pub is_from_to : ℤ → ℤ → ℤ → Bool
is_from_to low high z = int_le low z && int_le z high

-- a status that no body has
abbrev pub forbids_body : ℤ → Bool
forbids_body z = int_eq z (pos 204) || int_eq z (pos 205)

-- the output has a member in the body
abbrev pub HasOutputBody : GraphMaps → List ℕ → Type 0
HasOutputBody g operation =
    (output id : List ℕ) × (s : ShapeEntry) × (m : MemberEntry) × IsRelated Output g operation output × IsMemberOf g output s id m
    × (is_in_body an_output m.traits ≡ true)

-- the code of an operation: 200 to 299, and one of a body where the output has one
pub record HasWrongCode (g : GraphMaps) (operation : List ℕ) (z : ℤ) : Type 0 where
  pub is_operation : IsOperation g operation
  pub said : success_code_of g operation ≡ Some z
  pub wrong : (is_from_to (pos 200) (pos 299) z ≡ false) ⊎ ((forbids_body z ≡ true) × HasOutputBody g operation)

-- the status of an error: 400 to 499 of one of the client, 500 to 599 of one of the server
abbrev pub is_status_of : Option (List ℕ) → ℤ → Bool
is_status_of None z = true
is_status_of (Some who) z =
    (not (bytes_eq who (codes "client")) || is_from_to (pos 400) (pos 499) z)
    && (not (bytes_eq who (codes "server")) || is_from_to (pos 500) (pos 599) z)

pub record HasWrongStatus (g : GraphMaps) (id : List ℕ) (z : ℤ) : Type 0 where
  pub is_structure : IsOwnOfKind g Structure id
  pub said : number_of (read_trait g id http_error_id) ≡ Some z
  pub wrong : is_status_of (text_of (read_trait g id error_id)) z ≡ false

-- Http.Code: told is the number
pub data HasWrongStatusCode (g : GraphMaps) (id detail : List ℕ) : Type 0 where
  wrong_code : (z : ℤ) → HasWrongCode g id z → detail ≡ signed_decimal z → HasWrongStatusCode g id detail
  wrong_status : (z : ℤ) → HasWrongStatus g id z → detail ≡ signed_decimal z → HasWrongStatusCode g id detail

-- those that are routed
abbrev pub methods : List (List ℕ)
methods = codes "GET" ∷ codes "PUT" ∷ codes "POST" ∷ codes "PATCH" ∷ codes "DELETE" ∷ []

abbrev pub is_routed : List ℕ → Bool
is_routed method = list_any (bytes_eq method) methods

-- Http.Method: told is the method
pub record HasOtherMethod (g : GraphMaps) (operation method : List ℕ) : Type 0 where
  pub is_operation : IsOperation g operation
  pub said : method_of g operation ≡ Some method
  pub other : is_routed method ≡ false

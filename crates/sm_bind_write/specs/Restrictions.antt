-- Which operations aren't served by bindings, and why: the path of the first member, or the word `http`. They are this project's own.
use Rattle.std.specs.Prelude.{◌++◌, ◌&&◌, ◌||◌, ℕ, Bool, true, false, cond, List, [], ◌∷◌, Option, Some, None, codes}
use Rattle.std.specs.Str.{str_to_ascii_lowercase}
use Rattle.sm_bytes.specs.Ascii.{slash}
use Rattle.sm_shapes.specs.Places.{kind_of, member_place}
use Rattle.sm_shapes.specs.TableData.{BindingData, TableData, binding_at, header, payload}
use Rattle.sm_shapes.specs.TableData.{media_type_at, members_at, name_at, response_code}
use Rattle.sm_shapes.specs.declared.kinds.ShapeKind.{ShapeKind}
use Rattle.sm_shapes.specs.declared.kinds.ShapeKind.TheVariants as table
use Rattle.sm_rules.specs.Bindings.{BoundSide, an_error, an_input, an_output}
use Rattle.sm_messages.specs.service.ServiceData.{HttpData, OperationData, ServiceData, name_of_error}
use Rattle.sm_messages.specs.service.WireMembers.{counted_binding, is_string_kind}
use Rattle.sm_messages.specs.service.declared.error.ErrorShape.{ErrorShape}
use Rattle.sm_messages.specs.Goals.{operation_at}
use Rattle.sm_parts.specs.HeaderLists.{is_filled}
use Rattle.sm_routes.specs.Routes.{is_routed}
use Rattle.sm_part_texts.specs.CarriedTexts.{is_field_text}
use Rattle.sm_bind.specs.Roles.{is_among, reserved_names}

-- a media type that counts: one that isn't empty, has no blank around it and can stand in a field
abbrev pub is_media_type : List ℕ → Bool
is_media_type u = is_filled u && is_field_text u

abbrev pub has_media_type : Option (List ℕ) → Bool
has_media_type None = false
has_media_type (Some u) = is_media_type u

-- A member that isn't served: a string in a header with a media type, a header of a reserved name, a payload that is a list or a map
abbrev pub is_collection : ShapeKind → Bool
is_collection table.List = true
is_collection table.Map = true
is_collection kind = false

abbrev pub is_refused : Option BindingData → TableData → ℕ → Bool
is_refused (Some (header name)) t k =
    is_among reserved_names (str_to_ascii_lowercase name)
    || (is_string_kind (kind_of t (member_place k)) && has_media_type (media_type_at t k))
is_refused (Some payload) t k = is_collection (kind_of t (member_place k))
is_refused b t k = false

abbrev pub first_refused : (ℕ → Bool) → List ℕ → Option ℕ
first_refused test [] = None
first_refused test (k ∷ ks) = cond (test k) (Some k) (first_refused test ks)

-- an error has no status of its own either
abbrev pub is_status : Option BindingData → Bool
is_status (Some response_code) = true
is_status b = false

abbrev pub is_refused_on : TableData → BoundSide → ℕ → Bool
is_refused_on t an_error k = is_status (binding_at t k) || is_refused (counted_binding an_error (binding_at t k)) t k
is_refused_on t side k = is_refused (counted_binding side (binding_at t k)) t k

abbrev pub refused_on : TableData → BoundSide → ℕ → Option ℕ
refused_on t side s = first_refused (is_refused_on t side) (members_at t s)

-- the path of a member below a root
abbrev pub path_below : List ℕ → TableData → ℕ → List ℕ
path_below root t k = root ++ slash ∷ name_at t k

abbrev pub error_root : ErrorShape → List ℕ
error_root e = codes "error/" ++ name_of_error e

-- of the member that there may be, else of what comes behind
abbrev pub path_or : List ℕ → TableData → Option ℕ → Option (List ℕ) → Option (List ℕ)
path_or root t None other = other
path_or root t (Some k) other = Some (path_below root t k)

abbrev pub refused_in_errors : TableData → List ErrorShape → Option (List ℕ)
refused_in_errors t [] = None
refused_in_errors t (e ∷ es) = path_or (error_root e) t (refused_on t an_error e.shape) (refused_in_errors t es)

-- input, output, and errors in their order
abbrev pub refused_in : TableData → OperationData → Option (List ℕ)
refused_in t o =
    path_or (codes "input") t (refused_on t an_input o.input)
    (path_or (codes "output") t (refused_on t an_output o.output) (refused_in_errors t o.errors))

abbrev pub restriction_by : Option HttpData → TableData → OperationData → Option (List ℕ)
restriction_by None t o = Some (codes "http")
restriction_by (Some h) t o = cond (is_routed h.method) (refused_in t o) (Some (codes "http"))

abbrev pub restriction : ServiceData → ℕ → Option (List ℕ)
restriction s o = restriction_by (operation_at s o).http s.table (operation_at s o)

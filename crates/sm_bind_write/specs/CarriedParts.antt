-- What parts of a message can't carry of a value, as paths in model order.
use Rattle.std.specs.Prelude.{◌++◌, ◌&&◌, ◌||◌, ℕ, ℤ, pos, Bool, true, false, not, cond, int_le, List, [], ◌∷◌, Option, Some, None}
use Rattle.std.specs.List.{list_any}
use Rattle.std.specs.Ordering.{int_eq}
use Rattle.std.specs.Str.{bytes_eq, str_to_ascii_lowercase}
use Rattle.httparse.specs.Grammar.{is_token}
use Rattle.sm_tree.specs.declared.path.Step.{Step}
use Rattle.sm_tree.specs.declared.path.Step.TheVariants.{Key, Member}
use Rattle.sm_shapes.specs.Places.{Place, member_place, value_place}
use Rattle.sm_shapes.specs.TableData.{BindingData, TableData, label, query, query_params, header, prefix_headers, payload, response_code}
use Rattle.sm_shapes.specs.TableData.{name_at}
use Rattle.sm_shapes.specs.Values.{EntryVals, FieldVals, Val, blob_val, entry, int_val, map_val, no_entries, text_val}
use Rattle.sm_codec.specs.Conventions.{json_convention}
use Rattle.sm_codec.specs.Written.{paths_under, uncarried}
use Rattle.sm_messages.specs.TreeBodies.{fields_in}
use Rattle.sm_messages.specs.service.WireMembers.{stands_in_body, wire_member_at}
use Rattle.sm_parts.specs.HeaderLists.{is_filled}
use Rattle.sm_part_texts.specs.CarriedTexts.{here_unless, is_carried, uncarried_field, uncarried_query}
use Rattle.sm_part_texts.specs.declared.carried.TextTest.TheVariants.{OfField, OfLabel}
use Rattle.sm_bind.specs.Roles.{Bound, binding_on, bound_members, is_taken_key, is_taken_name}
use Rattle.sm_bind_write.specs.WrittenParts.{value_of}

-- a query map, which isn't empty: a key that a literal or another member names, and what stands under a key
abbrev pub uncarried_param : Bound → Place → List ℕ → Val → List (List Step)
uncarried_param b p key v = cond (is_taken_key b key) ([] ∷ []) (uncarried_query b.table p v)

abbrev pub params_failing : Bound → Place → EntryVals → List (List Step)
params_failing b p no_entries = []
params_failing b p (entry key v es) = paths_under (Key key) (uncarried_param b p key v) ++ params_failing b p es

abbrev pub some_params_failing : Bound → Place → EntryVals → List (List Step)
some_params_failing b p no_entries = [] ∷ []
some_params_failing b p (entry key v es) = params_failing b p (entry key v es)

abbrev pub uncarried_params : Bound → Place → Val → List (List Step)
uncarried_params b p (map_val es) = some_params_failing b p es
uncarried_params b p v = [] ∷ []

-- prefix headers, of which there are some: a key in lower case, which makes a token that nothing else names
abbrev pub is_prefix_key : Bound → List ℕ → List ℕ → Bool
is_prefix_key b prefix key =
    bytes_eq (str_to_ascii_lowercase key) key
    && (is_token (prefix ++ key) && not (is_taken_name b (prefix ++ key)))

abbrev pub is_prefixed_entry : Bound → List ℕ → Place → List ℕ → Val → Bool
is_prefixed_entry b prefix p key v = is_prefix_key b prefix key && is_carried OfField b.table p v

abbrev pub prefixed_failing : Bound → List ℕ → Place → EntryVals → List (List Step)
prefixed_failing b prefix p no_entries = []
prefixed_failing b prefix p (entry key v es) =
    paths_under (Key key) (here_unless (is_prefixed_entry b prefix p key v)) ++ prefixed_failing b prefix p es

abbrev pub some_prefixed_failing : Bound → List ℕ → Place → EntryVals → List (List Step)
some_prefixed_failing b prefix p no_entries = [] ∷ []
some_prefixed_failing b prefix p (entry key v es) = prefixed_failing b prefix p (entry key v es)

abbrev pub uncarried_prefixed : Bound → List ℕ → Place → Val → List (List Step)
uncarried_prefixed b prefix p (map_val es) = some_prefixed_failing b prefix p es
uncarried_prefixed b prefix p v = [] ∷ []

-- a payload: of raw ones those of no bytes
abbrev pub uncarried_payload : TableData → ℕ → Val → List (List Step)
uncarried_payload t k (blob_val u) = here_unless (is_filled u)
uncarried_payload t k (text_val u) = here_unless (is_filled u)
uncarried_payload t k v = uncarried t (json_convention true) (member_place k) v

-- a status of success: one of a body where members stand in the body
abbrev pub has_body : Bound → Bool
has_body b = list_any (λ k. stands_in_body b.side (wire_member_at b.table k)) (bound_members b)

abbrev pub is_bodiless : ℤ → Bool
is_bodiless z = int_eq z (pos 204) || int_eq z (pos 205)

abbrev pub is_success : Bound → ℤ → Bool
is_success b z = int_le (pos 200) z && (int_le z (pos 299) && not (is_bodiless z && has_body b))

abbrev pub is_status : Bound → Val → Bool
is_status b (int_val z) = is_success b z
is_status b v = false

abbrev pub uncarried_status : Bound → Val → List (List Step)
uncarried_status b v = here_unless (is_status b v)

-- of a member that is present
abbrev pub uncarried_bound : Option BindingData → Bound → ℕ → Val → List (List Step)
uncarried_bound None b k v = uncarried b.table (json_convention true) (member_place k) v
uncarried_bound (Some label) b k v = here_unless (is_carried OfLabel b.table (member_place k) v)
uncarried_bound (Some (query name)) b k v = uncarried_query b.table (member_place k) v
uncarried_bound (Some query_params) b k v = uncarried_params b (value_place b.table (member_place k)) v
uncarried_bound (Some (header name)) b k v = uncarried_field b.table (member_place k) v
uncarried_bound (Some (prefix_headers prefix)) b k v =
    uncarried_prefixed b (str_to_ascii_lowercase prefix) (value_place b.table (member_place k)) v
uncarried_bound (Some payload) b k v = uncarried_payload b.table k v
uncarried_bound (Some response_code) b k v = uncarried_status b v

-- of a member: of those that are absent a bound status alone isn't carried
abbrev pub uncarried_absent : Option BindingData → List (List Step)
uncarried_absent (Some response_code) = [] ∷ []
uncarried_absent binding = []

abbrev pub uncarried_member : Bound → ℕ → Option Val → List (List Step)
uncarried_member b k (Some v) = uncarried_bound (binding_on b k) b k v
uncarried_member b k None = uncarried_absent (binding_on b k)

abbrev pub uncarried_members : Bound → FieldVals → List ℕ → List (List Step)
uncarried_members b fs [] = []
uncarried_members b fs (k ∷ ks) = paths_under (Member (name_at b.table k)) (uncarried_member b k (value_of k fs)) ++ uncarried_members b fs ks

abbrev pub uncarried_parts : Bound → Val → List (List Step)
uncarried_parts b v = uncarried_members b (fields_in v) (bound_members b)

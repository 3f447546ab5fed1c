-- The parts of a message, and what stands in them for each member (Smithy 2.0, "HTTP binding traits"). What stands for a member is a list: none
-- where it is absent, and two where it stands twice, as pairs of an object do under one name. So the faults of parts, and the value, are those
-- of a structure.
use Rattle.std.specs.Prelude.{◌&&◌, ℕ, pos, List, [], ◌∷◌, Option, Some, None, drop, length, map, nat_eq, not, Bool}
use Rattle.std.specs.List.{filter, starts_with}
use Rattle.std.specs.Str.{is_utf8, str_to_ascii_lowercase}
use Rattle.sm_tree.specs.Node.{Node, object}
use Rattle.sm_shapes.specs.Places.{kind_of, member_place, value_place}
use Rattle.sm_shapes.specs.TableData.{BindingData, label, query, query_params, header, prefix_headers, payload, response_code}
use Rattle.sm_shapes.specs.TableData.{json_name_at, name_at}
use Rattle.sm_codec.specs.Codec.{Codec}
use Rattle.sm_codec.specs.Named.{named}
use Rattle.sm_codec.specs.Readings.{ByMember, Child, child_of, leaf_reading, named_children}
use Rattle.sm_http.specs.declared.message.Field.{Field}
use Rattle.sm_messages.specs.MessageForm.{Content, a_tree, nothing, raw_bytes}
use Rattle.sm_parts.specs.HeaderLists.{is_filled, joined_values}
use Rattle.sm_parts.specs.Targets.{QueryPair}
use Rattle.sm_parts.specs.Texts.{number_read}
use Rattle.sm_part_values.specs.PartTexts.{field_children, in_field, in_target, is_list_at, keyed_by, keyed_texts, map_or_none}
use Rattle.sm_part_values.specs.PartTexts.{query_children, raw_by, some_child, text_child}
use Rattle.sm_bind.specs.PartsData.{PartsData}
use Rattle.sm_bind.specs.Roles.{Bound, binding_on, is_taken_key, is_taken_name}

-- the query map: pairs whose keys are UTF-8, and which neither a literal nor another member names
abbrev pub is_of_map : Bound → QueryPair → Bool
is_of_map b pair = is_utf8 pair.0 && not (is_taken_key b pair.0)

abbrev pub params_children : Bound → Codec → ℕ → List QueryPair → List Child
params_children b c k pairs =
    map_or_none c (keyed_by (is_list_at c (value_place c.table (member_place k))) in_target c (filter (is_of_map b) pairs))

-- Prefix headers: fields whose names begin with the prefix, in lower case, that aren't empty and that nothing else names
abbrev pub has_prefix : List ℕ → List ℕ → Bool
has_prefix prefix name = starts_with nat_eq name prefix

abbrev pub is_prefixed : Bound → List ℕ → Field → Bool
is_prefixed b prefix f =
    let name = str_to_ascii_lowercase f.name in
    has_prefix prefix name && (not (is_taken_name b name) && is_filled (joined_values (f.value ∷ [])))

abbrev pub prefixed_text : List ℕ → Field → List ℕ × List ℕ
prefixed_text prefix f = (drop (length prefix) (str_to_ascii_lowercase f.name), joined_values (f.value ∷ []))

abbrev pub prefixed_texts : Bound → List ℕ → List Field → List (List ℕ × List ℕ)
prefixed_texts b prefix fields = map (prefixed_text prefix) (filter (is_prefixed b prefix) fields)

abbrev pub prefixed_children : Bound → Codec → List ℕ → List Field → List Child
prefixed_children b c prefix fields =
    map_or_none c (keyed_texts in_field c (prefixed_texts b (str_to_ascii_lowercase prefix) fields))

-- a payload: the bytes of a blob, a string or an enum, which are absent where there are none; else a tree
abbrev pub payload_children : Codec → ℕ → Content → List Child
payload_children c k nothing = []
payload_children c k (raw_bytes []) = []
payload_children c k (raw_bytes (b ∷ u)) = some_child (λ p. raw_by (kind_of c.table p) c p (b ∷ u)) ∷ []
payload_children c k (a_tree n) = child_of c n ∷ []

-- the document: an object
abbrev pub pairs_of_tree : Codec → Node → List (List ℕ × Child)
pairs_of_tree c (object ms) = named_children c ms
pairs_of_tree c n = []

abbrev pub document_children : Codec → ℕ → Content → List Child
document_children c k (a_tree n) = named (json_name_at c.table k) (pairs_of_tree c n)
document_children c k (raw_bytes u) = []
document_children c k nothing = []

-- the status, as a whole number of 32 bits
abbrev pub status_child : Codec → ℕ → Child
status_child c status = some_child (λ p. leaf_reading c p (number_read 32 (pos status)))

-- what stands for a member, by the binding that counts for it
abbrev pub bound_children : Option BindingData → Bound → Codec → PartsData → Content → ℕ → List Child
bound_children None b c parts content k = document_children c k content
bound_children (Some label) b c parts content k = map (text_child in_target c) (named (name_at c.table k) parts.labels)
bound_children (Some (query name)) b c parts content k = query_children c k name parts.query
bound_children (Some query_params) b c parts content k = params_children b c k parts.query
bound_children (Some (header name)) b c parts content k = field_children c k name parts.fields
bound_children (Some (prefix_headers prefix)) b c parts content k = prefixed_children b c prefix parts.fields
bound_children (Some payload) b c parts content k = payload_children c k content
bound_children (Some response_code) b c parts content k = status_child c parts.status ∷ []

abbrev pub stands : Bound → Codec → PartsData → Content → ByMember
stands b c parts content k = bound_children (binding_on b k) b c parts content k

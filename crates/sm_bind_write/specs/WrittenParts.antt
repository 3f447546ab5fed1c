-- The parts that are written for a value (Smithy 2.0, "HTTP binding traits"): of each member that is present its own, in model order; and the
-- target of a request.
use Rattle.std.specs.Prelude.{◌++◌, ◌==◌, ℕ, true, cond, List, [], ◌∷◌, Option, Some, None, unsigned_abs, unwrap_or}
use Rattle.std.specs.Str.{str_to_ascii_lowercase}
use Rattle.sm_tree.specs.Node.{Members, member, no_members, object}
use Rattle.sm_shapes.specs.Places.{member_place, value_place}
use Rattle.sm_shapes.specs.TableData.{BindingData, TableData, label, query, query_params, header, prefix_headers, payload, response_code}
use Rattle.sm_shapes.specs.TableData.{json_name_at, name_at}
use Rattle.sm_shapes.specs.Values.{EntryVals, FieldVals, Val, blob_val, field, int_val, map_val, no_entries, no_fields, text_val}
use Rattle.sm_codec.specs.Conventions.{json_convention}
use Rattle.sm_codec.specs.Written.{written}
use Rattle.sm_http.specs.declared.message.Field.{Field}
use Rattle.sm_uri.specs.UriPattern.{UriSaid}
use Rattle.sm_messages.specs.MessageForm.{Content, a_tree, nothing, raw_bytes}
use Rattle.sm_messages.specs.TreeBodies.{fields_in}
use Rattle.sm_parts.specs.Targets.{QueryPair}
use Rattle.sm_routes.specs.WrittenTargets.{LabelText, written_target}
use Rattle.sm_part_texts.specs.PlaceTexts.{field_value, in_targets, keyed_texts, pairs_under, prefixed_fields, text_at, texts_at}
use Rattle.sm_bind.specs.PartsData.{PartsData}
use Rattle.sm_bind.specs.Roles.{Bound, binding_on, has_document, is_in_document}

-- the value of a member, where it is present
abbrev pub value_of : ℕ → FieldVals → Option Val
value_of k no_fields = None
value_of k (field j v fs) = cond (j == k) (Some v) (value_of k fs)

abbrev pub entries_in : Val → EntryVals
entries_in (map_val es) = es
entries_in v = no_entries

-- of one member: its label, its pairs of the query, those of the query map, and its fields
abbrev pub member_labels : Option BindingData → TableData → ℕ → Val → List LabelText
member_labels (Some label) t k v = (name_at t k, text_at in_targets t (member_place k) v) ∷ []
member_labels b t k v = []

abbrev pub member_pairs : Option BindingData → TableData → ℕ → Val → List QueryPair
member_pairs (Some (query name)) t k v = pairs_under name (texts_at in_targets t (member_place k) v)
member_pairs b t k v = []

abbrev pub member_params : Option BindingData → TableData → ℕ → Val → List QueryPair
member_params (Some query_params) t k v = keyed_texts t (value_place t (member_place k)) (entries_in v)
member_params b t k v = []

abbrev pub member_headers : Option BindingData → TableData → ℕ → Val → List Field
member_headers (Some (header name)) t k v =
    record { name = str_to_ascii_lowercase name; value = field_value t (member_place k) v } ∷ []
member_headers (Some (prefix_headers prefix)) t k v =
    prefixed_fields t (value_place t (member_place k)) (str_to_ascii_lowercase prefix) (entries_in v)
member_headers b t k v = []

abbrev pub member_status : Option BindingData → Val → Option ℕ
member_status (Some response_code) (int_val z) = Some (unsigned_abs z)
member_status b v = None

-- what each field gives, one after the other
abbrev pub over_fields : {A : Type 0} → (ℕ → Val → List A) → FieldVals → List A
over_fields f no_fields = []
over_fields f (field k v fs) = f k v ++ over_fields f fs

abbrev pub written_labels : Bound → FieldVals → List LabelText
written_labels b fs = over_fields (λ k. member_labels (binding_on b k) b.table k) fs

abbrev pub written_pairs : Bound → FieldVals → List QueryPair
written_pairs b fs = over_fields (λ k. member_pairs (binding_on b k) b.table k) fs

abbrev pub written_params : Bound → FieldVals → List QueryPair
written_params b fs = over_fields (λ k. member_params (binding_on b k) b.table k) fs

abbrev pub written_headers : Bound → FieldVals → List Field
written_headers b fs = over_fields (λ k. member_headers (binding_on b k) b.table k) fs

-- the bound status, or this one
abbrev pub status_among : Bound → ℕ → FieldVals → ℕ
status_among b usual no_fields = usual
status_among b usual (field k v fs) = unwrap_or (member_status (binding_on b k) v) (status_among b usual fs)

-- The parts of a value: of the query first the pairs of bound members, then those of the map. The status is the usual one where none is bound
abbrev pub parts_of : Bound → ℕ → FieldVals → PartsData
parts_of b usual fs = record {
  labels = written_labels b fs;
  query = written_pairs b fs ++ written_params b fs;
  fields = written_headers b fs;
  status = status_among b usual fs;
}

abbrev pub written_parts : Bound → ℕ → Val → PartsData
written_parts b usual v = parts_of b usual (fields_in v)

-- the document: an object of the members that stand in it, under their JSON names
abbrev pub document_pairs : Bound → FieldVals → Members
document_pairs b no_fields = no_members
document_pairs b (field k v fs) =
    cond (is_in_document b k)
    (member (json_name_at b.table k) (written b.table (json_convention true) (member_place k) v) (document_pairs b fs))
    (document_pairs b fs)

-- a payload: the bytes of a blob, a string or an enum, or a tree
abbrev pub payload_content : Bound → ℕ → Val → Content
payload_content b k (blob_val u) = raw_bytes u
payload_content b k (text_val u) = raw_bytes u
payload_content b k v = a_tree (written b.table (json_convention true) (member_place k) v)

abbrev pub payload_by : Option BindingData → Bound → ℕ → Val → Content → Content
payload_by (Some payload) b k v other = payload_content b k v
payload_by binding b k v other = other

abbrev pub payload_among : Bound → FieldVals → Content
payload_among b no_fields = nothing
payload_among b (field k v fs) = payload_by (binding_on b k) b k v (payload_among b fs)

-- what is written as the body: the document, `{}` too, where a member stands in it; else the payload, if there is one
abbrev pub written_content : Bound → Val → Content
written_content b v = cond (has_document b) (a_tree (object (document_pairs b (fields_in v)))) (payload_among b (fields_in v))

-- the target of a request, of a pattern with labels
abbrev pub request_target : UriSaid → PartsData → List ℕ
request_target u parts = written_target u parts.labels parts.query

-- What stands in the parts of a message for the members of an input, an output or an error is of their places, and so is what the parts
-- come to.
use Rattle.std.proofs.Common.{◌≡◌, ℕ, ◌<◌, Bool, true, false, ◌&&◌, cond, List, [], ◌∷◌, map, refl, ap}
use Rattle.std.specs.Prelude.{pos, Option, Some, None, Ok, Err}
use Rattle.std.specs.List.{AllByRecursion, Contains, filter, join_with_byte}
use Rattle.std.specs.Str.{str_to_ascii_lowercase}
use Rattle.sm_bytes.specs.Ascii.{comma}
use Rattle.sm_tree.specs.Node.{Members, Node, member, no_members, object}
use Rattle.sm_time.specs.declared.format.Format.TheVariants.{DateTime}
use Rattle.sm_time.proofs.StampForms.{and_first}
use Rattle.sm_model.proofs.OneRising.{contains_behind, contains_head}
use Rattle.sm_shapes.specs.Fitting.{Test}
use Rattle.sm_shapes.specs.Places.{Place, entry_place, format_of, key_place, kind_of, member_place, root_place, value_place}
use Rattle.sm_shapes.specs.InOrder.{IsTextKind}
use Rattle.sm_shapes.specs.TableData.{BindingData, header, json_name_at, kind_at, label, member_count, members_at, name_at, payload}
use Rattle.sm_shapes.specs.TableData.{prefix_headers}
use Rattle.sm_shapes.specs.TableData.{query, query_params, response_code, shape_count, target_at}
use Rattle.sm_shapes.specs.Values.{blob_val, fields_of, structure_val}
use Rattle.sm_shapes.specs.declared.fault.FaultKind.TheVariants.{WrongType}
use Rattle.sm_shapes.specs.declared.kinds.ShapeKind.{ShapeKind}
use Rattle.sm_shapes.specs.declared.kinds.ShapeKind.TheVariants as kind
use Rattle.sm_codec.specs.Codec.{Codec, InTable}
use Rattle.sm_codec.specs.CodecLaws.{IsCodec}
use Rattle.sm_codec.specs.Convention.{are_bytes}
use Rattle.sm_codec.specs.FaultLists.{Reading, settled}
use Rattle.sm_codec.specs.Named.{in_byte_order, named, names_of}
use Rattle.sm_codec.specs.Readings.{Child, leaf_reading, members_fields, members_faults, named_children, one_here, reading, when_closed}
use Rattle.sm_codec.specs.Sorts.{sort_with}
use Rattle.sm_codec.specs.declared.simple.Simple.TheVariants as the
use Rattle.sm_codec.proofs.LeafLaws.{guarded}
use Rattle.sm_codec.proofs.NoFaults.{IsReading, reading_is}
use Rattle.sm_codec.proofs.PlacesIn.{key_text}
use Rattle.sm_codec.proofs.ReadValues.{one_value}
use Rattle.sm_http.specs.FieldValues.{values_named}
use Rattle.sm_compile.proofs.RowsAlike.{contains_mapped}
use Rattle.sm_bind_read.specs.messages.MessageForm.{Content, a_tree, nothing, raw_bytes}
use Rattle.sm_parts.specs.HeaderLists.{entries_of, filled}
use Rattle.sm_parts.specs.Texts.{number_read}
use Rattle.sm_parts.specs.declared.list_entry.ListEntry.{ListEntry}
use Rattle.sm_parts.specs.declared.list_entry.ListEntry.TheVariants.{Text as some_text, NoEntry as no_entry}
use Rattle.sm_part_values.specs.PartTexts.{TextForm, entry_child, field_cut, fields_by, in_field, in_target, is_list, is_list_at, keyed_by}
use Rattle.sm_part_values.specs.PartTexts.{keyed_texts, list_child, list_or_none, map_or_none, raw_by, text_child, texts_by}
use Rattle.sm_bind_read.specs.service.HttpServable.{HaveTargets}
use Rattle.sm_bind_read.specs.service.WireMembers.{is_integer_kind, is_map_kind, may_be_bound, target_seen_at, wire_member_at, wire_members}
use Rattle.sm_excerpts.proofs.Extending.{members_there}
use Rattle.sm_bind_read.specs.bind.PartsData.{PartsData}
use Rattle.sm_bind_read.specs.bind.Roles.{Bound, binding_on, bound_members, has_document}
use Rattle.sm_bind_read.specs.PartFaults.{bound_codec, is_no_object, parts_reading}
use Rattle.sm_bind_read.specs.Parts.{bound_children, document_children, is_of_map, pairs_of_tree, payload_children, prefixed_texts, stands}
use Rattle.sm_rest.proofs.ChildrenFit.{AllFit, EachFits, PairsFit, list_fits, map_fits, members_fit, named_fit}
use Rattle.sm_rest.proofs.ReadingsFit.{ReadingFits, leaf_fits, settled_fits}
use Rattle.sm_rest.proofs.TextsFit.{IsTyped, field_typed, number_of_type, simple_fits, target_typed, text_fits}

list_from : (k : ShapeKind) → is_list k ≡ true → k ≡ kind.List
list_from kind.List h = refl
list_from k h = absurd cc

map_from : (k : ShapeKind) → is_map_kind k ≡ true → k ≡ kind.Map
map_from kind.Map h = refl
map_from k h = absurd cc

integer_from : (k : ShapeKind) → is_integer_kind k ≡ true → k ≡ kind.Integer
integer_from kind.Integer h = refl
integer_from k h = absurd cc

-- trees
tree_by : (c : Codec) (p : Place) (n : Node) → IsCodec c → InTable c.table p → (r : Reading) → reading c n p ≡ r → IsReading r
    → ReadingFits c p r
tree_by c p n laws inside (Ok v) e is = ((one_value c p v n laws inside).1 e).0
tree_by c p n laws inside (Err []) e is = is
tree_by c p n laws inside (Err (f ∷ fs)) e is = tt

tree_fits : (c : Codec) (p : Place) (n : Node) → IsCodec c → InTable c.table p → ReadingFits c p (reading c n p)
tree_fits c p n laws inside = tree_by c p n laws inside (reading c n p) refl (reading_is c n p)

object_fits : (c : Codec) (p : Place) (ms : Members) → IsCodec c → InTable c.table p → PairsFit c p (named_children c ms)
object_fits c p no_members laws inside = tt
object_fits c p (member k n ms) laws inside = (tree_fits c p n laws inside, object_fits c p ms laws inside)

pairs_fit : (c : Codec) (p : Place) (n : Node) → IsCodec c → InTable c.table p → PairsFit c p (pairs_of_tree c n)
pairs_fit c p (object ms) laws inside = object_fits c p ms laws inside
pairs_fit c p n laws inside = tt

document_fits : (c : Codec) (p : Place) (k : ℕ) (content : Content) → IsCodec c → InTable c.table p
    → AllFit c p (document_children c k content)
document_fits c p k (a_tree n) laws inside = named_fit c p (json_name_at c.table k) (pairs_of_tree c n) (pairs_fit c p n laws inside)
document_fits c p k (raw_bytes u) laws inside = tt
document_fits c p k nothing laws inside = tt

-- texts, one by one, as a list and as a map
module _ (c : Codec) (f : TextForm) (typed : IsTyped f) where
  each_text : (p : Place) (us : List (List ℕ)) → AllFit c p (map (text_child f c) us)
  each_text p [] = tt
  each_text p (u ∷ us) = (text_fits f typed c p u, each_text p us)

  some_list : (p : Place) (children : List Child) → kind_of c.table p ≡ kind.List → AllFit c (entry_place c.table p) children
      → AllFit c p (list_or_none c children)
  some_list p [] is fit = tt
  some_list p (child ∷ children) is fit = (list_fits c p (child ∷ children) is fit, tt)

  texts_of : (p : Place) (t : Bool) (us : List (List ℕ)) → is_list (kind_of c.table p) ≡ t → AllFit c p (texts_by t f c us)
  texts_of p true us e = some_list p (map (text_child f c) us) (list_from (kind_of c.table p) e) (each_text (entry_place c.table p) us)
  texts_of p false us e = each_text p us

  keyed_alone : (p : Place) (pairs : List (List ℕ × List ℕ)) → PairsFit c p (keyed_texts f c pairs)
  keyed_alone p [] = tt
  keyed_alone p (pair ∷ pairs) = (text_fits f typed c p pair.1, keyed_alone p pairs)

  keyed_lists : (p : Place) (pairs : List (List ℕ × List ℕ)) (keys : List (List ℕ)) → kind_of c.table p ≡ kind.List
      → PairsFit c p (map (λ key. (key, list_child c (map (text_child f c) (named key pairs)))) keys)
  keyed_lists p pairs [] is = tt
  keyed_lists p pairs (key ∷ keys) is = (
    list_fits c p (map (text_child f c) (named key pairs)) is (each_text (entry_place c.table p) (named key pairs)),
    keyed_lists p pairs keys is,
  )

  keyed_of : (p : Place) (t : Bool) (pairs : List (List ℕ × List ℕ)) → is_list (kind_of c.table p) ≡ t → PairsFit c p (keyed_by t f c pairs)
  keyed_of p true pairs e = keyed_lists p pairs (in_byte_order (names_of pairs)) (list_from (kind_of c.table p) e)
  keyed_of p false pairs e = keyed_alone p pairs

some_map : (c : Codec) (p : Place) (pairs : List (List ℕ × Child)) → kind_of c.table p ≡ kind.Map
    → IsTextKind (kind_of c.table (key_place c.table p)) → PairsFit c (value_place c.table p) pairs → AllFit c p (map_or_none c pairs)
some_map c p [] is texts fit = tt
some_map c p (pair ∷ pairs) is texts fit = (map_fits c p (pair ∷ pairs) is texts fit, tt)

-- fields
each_entry : (c : Codec) (p : Place) (entries : List ListEntry) → AllFit c p (map (entry_child in_field c) entries)
each_entry c p [] = tt
each_entry c p (some_text u ∷ entries) = (text_fits in_field field_typed c p u, each_entry c p entries)
each_entry c p (no_entry ∷ entries) = (tt, each_entry c p entries)

fields_fit : (c : Codec) (k : ℕ) (t : Bool) (us : List (List ℕ)) → is_list (kind_of c.table (member_place k)) ≡ t
    → AllFit c (member_place k) (fields_by t c k us)
fields_fit c k true [] e = tt
fields_fit c k true (u ∷ us) e = (
  list_fits c (member_place k) (map (entry_child in_field c) (entries_of (field_cut c (member_place k)) (join_with_byte comma (u ∷ us))))
      (list_from (kind_of c.table (member_place k)) e)
      (each_entry c (entry_place c.table (member_place k)) (entries_of (field_cut c (member_place k)) (join_with_byte comma (u ∷ us)))),
  tt,
)
fields_fit c k false us e = each_text c in_field field_typed (member_place k) us

-- payloads, and a status
raw_fits : (c : Codec) (p : Place) (k : ShapeKind) (u : List ℕ) → kind_of c.table p ≡ k → ReadingFits c p (raw_by k c p u)
raw_fits c p kind.Blob u e =
    leaf_fits c p (cond (are_bytes u) (Ok (blob_val u)) (Err WrongType))
    (λ v h b. simple_fits c p DateTime the.Blob v (ap (λ x. sort_with DateTime x (format_of c.table p)) e)
    (guarded the.Blob (blob_val u) v WrongType (are_bytes u) refl h) b)
raw_fits c p k u e = text_fits in_target target_typed c p u

payload_fits : (c : Codec) (k : ℕ) (content : Content) → IsCodec c → k < member_count c.table
    → AllFit c (member_place k) (payload_children c k content)
payload_fits c k nothing laws inside = tt
payload_fits c k (raw_bytes []) laws inside = tt
payload_fits c k (raw_bytes (b ∷ u)) laws inside = (raw_fits c (member_place k) (kind_of c.table (member_place k)) (b ∷ u) refl, tt)
payload_fits c k (a_tree n) laws inside = (tree_fits c (member_place k) n laws inside, tt)

status_fits : (c : Codec) (k status : ℕ) → kind_of c.table (member_place k) ≡ kind.Integer
    → ReadingFits c (member_place k) (leaf_reading c (member_place k) (number_read 32 (pos status)))
status_fits c k status is =
    leaf_fits c (member_place k) (number_read 32 (pos status))
    (λ v h b. simple_fits c (member_place k) DateTime (the.Number 32) v
    (ap (λ x. sort_with DateTime x (format_of c.table (member_place k))) is) (number_of_type 32 (pos status) v h) b)

-- what stands for a member, by its binding
module _ (b : Bound) (test : Test) (laws : IsCodec (bound_codec b test)) (parts : PartsData) (content : Content) where
  bound_fit : (k : ℕ) → k < member_count b.table → (o : Option BindingData)
      → ((x : BindingData) → o ≡ Some x → may_be_bound x (target_seen_at b.table (target_at b.table k)) ≡ true)
      → AllFit (bound_codec b test) (member_place k) (bound_children o b (bound_codec b test) parts content k)
  bound_fit k inside None may = document_fits (bound_codec b test) (member_place k) k content laws inside
  bound_fit k inside (Some label) may =
      each_text (bound_codec b test) in_target target_typed (member_place k) (named (name_at b.table k) parts.labels)
  bound_fit k inside (Some (query name)) may =
      texts_of (bound_codec b test) in_target target_typed (member_place k) (is_list_at (bound_codec b test) (member_place k))
      (named name parts.query) refl
  bound_fit k inside (Some query_params) may =
      let is = map_from (kind_of b.table (member_place k)) (and_first (is_map_kind (kind_of b.table (member_place k))) _
      (may query_params refl)) in
      let pairs = filter (is_of_map b) parts.query in
      let q = value_place b.table (member_place k) in
      some_map (bound_codec b test) (member_place k) (keyed_by (is_list_at (bound_codec b test) q) in_target (bound_codec b test) pairs) is
      (key_text b.table (member_place k) laws.table inside is)
      (keyed_of (bound_codec b test) in_target target_typed q (is_list_at (bound_codec b test) q) pairs refl)
  bound_fit k inside (Some (header name)) may =
      fields_fit (bound_codec b test) k (is_list_at (bound_codec b test) (member_place k)) (filled (values_named name parts.fields)) refl
  bound_fit k inside (Some (prefix_headers prefix)) may =
      let is = map_from (kind_of b.table (member_place k)) (and_first (is_map_kind (kind_of b.table (member_place k))) _
      (may (prefix_headers prefix) refl)) in
      let texts = prefixed_texts b (str_to_ascii_lowercase prefix) parts.fields in
      some_map (bound_codec b test) (member_place k) (keyed_texts in_field (bound_codec b test) texts) is
      (key_text b.table (member_place k) laws.table inside is)
      (keyed_alone (bound_codec b test) in_field field_typed (value_place b.table (member_place k)) texts)
  bound_fit k inside (Some payload) may = payload_fits (bound_codec b test) k content laws inside
  bound_fit k inside (Some response_code) may =
      (status_fits (bound_codec b test) k parts.status (integer_from (kind_of b.table (member_place k)) (may response_code refl)), tt)

  each_bound : HaveTargets b.side (wire_members b.table b.shape) → (ks : List ℕ) → AllByRecursion (λ k. k < member_count b.table) ks
      → ((k : ℕ) → Contains ks k → Contains (members_at b.table b.shape) k)
      → EachFits (bound_codec b test) (stands b (bound_codec b test) parts content) ks
  each_bound targets [] there inside = tt
  each_bound targets (k ∷ ks) there inside = (
    bound_fit k there.0 (binding_on b k)
        (λ x e. targets (wire_member_at b.table k) x (contains_mapped (wire_member_at b.table) (members_at b.table b.shape) k
        (inside k (contains_head k ks))) e),
    each_bound targets ks there.1 (λ j found. inside j (contains_behind k j ks found)),
  )

either_fits : (c : Codec) (p : Place) (t : Bool) (r : Reading) → ReadingFits c p r → ReadingFits c p (cond t (Err (one_here WrongType)) r)
either_fits c p true r h = tt
either_fits c p false r h = h

-- so is what the parts of a structure come to
pub parts_fit : (b : Bound) (test : Test) (parts : PartsData) (content : Content) → IsCodec (bound_codec b test)
    → b.shape < shape_count b.table → kind_at b.table b.shape ≡ kind.Structure → HaveTargets b.side (wire_members b.table b.shape)
    → ReadingFits (bound_codec b test) (root_place b.shape) (parts_reading b test parts content)
parts_fit b test parts content laws lt is targets =
    let c = bound_codec b test in
    let ks = bound_members b in
    let there = members_there b.table b.shape ks (laws.table.members b.shape lt) in
    let each = each_bound b test laws parts content targets ks there (λ k found. found) in
    either_fits c (root_place b.shape) (has_document b && is_no_object content)
    (settled (members_faults b.table (when_closed b.table) (stands b c parts content) ks)
    (structure_val (fields_of (members_fields (when_closed b.table) (stands b c parts content) ks))))
    (settled_fits c (root_place b.shape) (members_faults b.table (when_closed b.table) (stands b c parts content) ks)
    (structure_val (fields_of (members_fields (when_closed b.table) (stands b c parts content) ks)))
    (λ h. (is, members_fit c laws (stands b c parts content) ks each h)))

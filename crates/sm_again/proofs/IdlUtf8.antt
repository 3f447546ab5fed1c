-- The text that is written for a namespace of a graph in the IDL is UTF-8, where names are and values are JSON.
use Rattle.std.proofs.Common.{◌≡◌, ◌&&◌, ℕ, Bool, true, false, List, [], ◌∷◌, ◌++◌, Option, Some, None, refl, subst, codes, arith}
use Rattle.std.proofs.Common.{IsUtf8}
use Rattle.std.specs.Prelude.{if◌then◌else◌}
use Rattle.std.specs.Char.{is_ascii}
use Rattle.std.specs.FinMap as fin
use Rattle.std.specs.List.{list_all}
use Rattle.std.specs.Str.{bytes_eq}
use Rattle.std.proofs.lemmas.Bool.Decides.{nat_tests}
use Rattle.std.proofs.lemmas.Option.{none-some, same_Some}
use Rattle.std.proofs.lemmas.Str.{IsUtf8-append, IsUtf8-nil}
use Rattle.sm_ids.specs.Identifier.{IsNamespace}
use Rattle.sm_ids.specs.TextParts.{local_part, member_name}
use Rattle.sm_ids.proofs.Cutting.{both, list_all_weaker}
use Rattle.sm_ids.proofs.Namespaces.{is_namespace_byte, namespace_bytes}
use Rattle.sm_json.specs.Written.{written, written_text}
use Rattle.sm_tree.specs.Json.{AreJson, AreJsonMembers, IsJson}
use Rattle.sm_tree.specs.Node.{Node, Nodes, Members, null, bool, int, number, text, bytes, tag, opaque, list, object, no_nodes, node}
use Rattle.sm_tree.specs.Node.{no_members, member}
use Rattle.sm_tree.specs.Parts.{entries_in, pairs_in, text_in, tree_named}
use Rattle.sm_model.specs.Graphs.{Entry, GraphMaps, ShapeEntry, ShapeMap, member_entry, shape_entry}
use Rattle.sm_model.specs.Kinds.{kind_name}
use Rattle.sm_model.specs.Properties.{TypeFields, property_forms}
use Rattle.sm_model.specs.declared.kind.Kind.{Kind}
use Rattle.sm_model.specs.declared.kind.Kind.TheVariants.{Blob, Boolean, Text as text_kind, Enum, Byte, Short, Integer, IntEnum, Long}
use Rattle.sm_model.specs.declared.kind.Kind.TheVariants.{Float, Double}
use Rattle.sm_model.specs.declared.kind.Kind.TheVariants.{BigInteger, BigDecimal, Timestamp, Document, List as list_kind, Map, Structure}
use Rattle.sm_model.specs.declared.kind.Kind.TheVariants.{Union}
use Rattle.sm_model.specs.declared.kind.Kind.TheVariants.{Service, Operation, Resource}
use Rattle.sm_model.specs.declared.property.PropertyForm.{PropertyForm}
use Rattle.sm_model.specs.declared.property.PropertyForm.TheVariants.{Reference, References, NamedReferences, Text, Rename}
use Rattle.sm_model.proofs.MapFacts.{Each}
use Rattle.sm_ast.proofs.JsonWritten.{AreJsonPairs, EntryIsJson, utf8}
use Rattle.sm_idl.specs.Written.{NodePairs, body_in_form, body_lines, braced, field_line, field_lines, indent, is_written}
use Rattle.sm_idl.specs.Written.{member_lines, member_there, metadata_line, metadata_lines, more_ids, more_named_ids}
use Rattle.sm_idl.specs.Written.{shape_lines, shape_text, target_part, trait_line, trait_lines, value_there}
use Rattle.sm_idl.specs.Written.{written_entry, written_id, written_idl, written_ids, written_named_ids, written_pairs}
use Rattle.sm_idl.specs.Written.{written_shape, written_value}
use Rattle.sm_idl.specs.WrittenForms.{written_form}
use Rattle.sm_merge.proofs.EntriesFound.{each_has, has_get}
use Rattle.sm_again.proofs.WrittenUtf8.{behind_ascii, node_utf8, text_utf8}

-- texts one behind the other
two : (a b : List ℕ) → IsUtf8 a → IsUtf8 b → IsUtf8 (a ++ b)
two = IsUtf8-append

feed : IsUtf8 (10 ∷ [])
feed = utf8 (10 ∷ []) refl

namespace_ascii : (c : ℕ) → is_namespace_byte c ≡ true → is_ascii c ≡ true
namespace_ascii c h = grind (arith, nat_tests)

namespace_utf8 : (t : List ℕ) → IsNamespace t → IsUtf8 t
namespace_utf8 t h = utf8 t (list_all_weaker is_namespace_byte is_ascii namespace_ascii t (namespace_bytes t h))

-- the names of types and of their fields are ASCII
abbrev are_ascii : TypeFields → Bool
are_ascii fs = list_all (λ f. list_all is_ascii f.0) fs

kind_plain : (k : Kind) → (list_all is_ascii (kind_name k) && are_ascii (property_forms k)) ≡ true
kind_plain Blob = refl
kind_plain Boolean = refl
kind_plain text_kind = refl
kind_plain Enum = refl
kind_plain Byte = refl
kind_plain Short = refl
kind_plain Integer = refl
kind_plain IntEnum = refl
kind_plain Long = refl
kind_plain Float = refl
kind_plain Double = refl
kind_plain BigInteger = refl
kind_plain BigDecimal = refl
kind_plain Timestamp = refl
kind_plain Document = refl
kind_plain list_kind = refl
kind_plain Map = refl
kind_plain Structure = refl
kind_plain Union = refl
kind_plain Service = refl
kind_plain Operation = refl
kind_plain Resource = refl

-- lines of metadata and of traits
metadata_utf8 : (ms : NodePairs) → AreJsonPairs ms → IsUtf8 (metadata_lines ms)
metadata_utf8 [] h = IsUtf8-nil
metadata_utf8 (m ∷ ms) h = two (metadata_line m.0 m.1) (metadata_lines ms) line (metadata_utf8 ms h.2)
  where
    line : IsUtf8 (metadata_line m.0 m.1)
    line =
        two _ (10 ∷ [])
        (two _ (written m.1)
        (two _ (codes " = ") (two (codes "metadata ") (written_text m.0) (utf8 (codes "metadata ") refl) (text_utf8 m.0 h.0))
        (utf8 (codes " = ") refl))
        (node_utf8 m.1 h.1))
        feed

traits_utf8 : (margin : List ℕ) → IsUtf8 margin → (ts : NodePairs) → AreJsonPairs ts → IsUtf8 (trait_lines margin ts)
traits_utf8 margin u [] h = IsUtf8-nil
traits_utf8 margin u (t ∷ ts) h = two (trait_line margin t.0 t.1) (trait_lines margin ts) line (traits_utf8 margin u ts h.2)
  where
    line : IsUtf8 (trait_line margin t.0 t.1)
    line =
        two _ (codes ")\n")
        (two _ (written t.1)
        (two _ (codes "(") (two _ t.0 (two margin (codes "@") u (utf8 (codes "@") refl)) h.0) (utf8 (codes "(") refl))
        (node_utf8 t.1 h.1))
        (utf8 (codes ")\n") refl)

indent_utf8 : IsUtf8 indent
indent_utf8 = utf8 indent refl

-- members
target_utf8 : (targets : Bool) (target : List ℕ) → IsUtf8 target → IsUtf8 (target_part targets target)
target_utf8 false target u = IsUtf8-nil
target_utf8 true target u = two (codes ": ") target (utf8 (codes ": ") refl) u

abbrev FoundIsJson : List ℕ → Option Entry → Type 0
FoundIsJson id None = Unit {0}
FoundIsJson id (Some e) = EntryIsJson id e

member_utf8 : (targets : Bool) (id : List ℕ) (o : Option Entry) → FoundIsJson id o → IsUtf8 (member_there targets id o)
member_utf8 targets id None h = IsUtf8-nil
member_utf8 targets id (Some (shape_entry s)) h = IsUtf8-nil
member_utf8 targets id (Some (member_entry m)) h =
    two _ (10 ∷ [])
    (two _ (target_part targets m.target)
    (two _ (member_name id)
    (two (trait_lines indent (fin.entries m.traits)) indent (traits_utf8 indent indent_utf8 (fin.entries m.traits) h.2) indent_utf8) h.0)
    (target_utf8 targets m.target h.1))
    feed

module _ (shapes : ShapeMap) (json : (id : List ℕ) → FoundIsJson id (fin.get shapes id)) where
  members_utf8 : (targets : Bool) (ids : List (List ℕ)) → IsUtf8 (member_lines targets shapes ids)
  members_utf8 targets [] = IsUtf8-nil
  members_utf8 targets (id ∷ ids) =
      two (member_there targets id (fin.get shapes id)) (member_lines targets shapes ids)
      (member_utf8 targets id (fin.get shapes id) (json id)) (members_utf8 targets ids)

-- references
text_part_utf8 : (n : Node) → IsJson n → IsUtf8 (written_id n)
text_part_utf8 (text t) h = h
text_part_utf8 null h = IsUtf8-nil
text_part_utf8 (bool b) h = IsUtf8-nil
text_part_utf8 (int z) h = IsUtf8-nil
text_part_utf8 (number t) h = IsUtf8-nil
text_part_utf8 (bytes t) h = IsUtf8-nil
text_part_utf8 (tag k n) h = IsUtf8-nil
text_part_utf8 (opaque b) h = IsUtf8-nil
text_part_utf8 (list ns) h = IsUtf8-nil
text_part_utf8 (object ms) h = IsUtf8-nil

more_ids_utf8 : (ns : Nodes) → AreJson ns → IsUtf8 (more_ids ns)
more_ids_utf8 no_nodes h = utf8 (93 ∷ []) refl
more_ids_utf8 (node n ns) h =
    two (codes ", ") _ (utf8 (codes ", ") refl) (two (written_id n) (more_ids ns) (text_part_utf8 n h.0) (more_ids_utf8 ns h.1))

more_named_utf8 : (ms : Members) → AreJsonMembers ms → IsUtf8 (more_named_ids ms)
more_named_utf8 no_members h = utf8 (125 ∷ []) refl
more_named_utf8 (member k n ms) h =
    behind_ascii 44 _ refl
    (two (written_text k ++ 58 ∷ written_id n) (more_named_ids ms)
    (two (written_text k) _ (text_utf8 k h.0) (behind_ascii 58 (written_id n) refl (text_part_utf8 n h.1))) (more_named_utf8 ms h.2))

-- values of fields
abbrev TextThere : Option (List ℕ) → Type 0
TextThere None = Unit {0}
TextThere (Some t) = IsUtf8 t

ids_utf8 : (o : Option Nodes) → ((ns : Nodes) → o ≡ Some ns → AreJson ns) → TextThere (written_ids o)
ids_utf8 None h = tt
ids_utf8 (Some no_nodes) h = tt
ids_utf8 (Some (node n ns)) h =
    let json = h (node n ns) refl in
    behind_ascii 91 _ refl (two (written_id n) (more_ids ns) (text_part_utf8 n json.0) (more_ids_utf8 ns json.1))

named_utf8 : (o : Option Members) → ((ms : Members) → o ≡ Some ms → AreJsonMembers ms) → TextThere (written_named_ids o)
named_utf8 None h = tt
named_utf8 (Some no_members) h = tt
named_utf8 (Some (member k n ms)) h =
    let json = h (member k n ms) refl in
    behind_ascii 123 _ refl
    (two (written_text k ++ 58 ∷ written_id n) (more_named_ids ms)
    (two (written_text k) _ (text_utf8 k json.0) (behind_ascii 58 (written_id n) refl (text_part_utf8 n json.1)))
    (more_named_utf8 ms json.2))

pairs_utf8 : (o : Option Members) → ((ms : Members) → o ≡ Some ms → AreJsonMembers ms) → TextThere (written_pairs o)
pairs_utf8 None h = tt
pairs_utf8 (Some no_members) h = tt
pairs_utf8 (Some (member k n ms)) h = node_utf8 (object (member k n ms)) (h (member k n ms) refl)

-- the parts of a tree of JSON
entries_json : (n : Node) → IsJson n → (ns : Nodes) → entries_in n ≡ Some ns → AreJson ns
entries_json (list ms) h ns is = subst AreJson (same_Some ms ns is) h
entries_json null h ns is = absurd (none-some ns is)
entries_json (bool b) h ns is = absurd (none-some ns is)
entries_json (int z) h ns is = absurd (none-some ns is)
entries_json (number t) h ns is = absurd (none-some ns is)
entries_json (text t) h ns is = absurd (none-some ns is)
entries_json (bytes t) h ns is = absurd (none-some ns is)
entries_json (tag k n) h ns is = absurd (none-some ns is)
entries_json (opaque b) h ns is = absurd (none-some ns is)
entries_json (object ms) h ns is = absurd (none-some ns is)

pairs_json : (n : Node) → IsJson n → (ms : Members) → pairs_in n ≡ Some ms → AreJsonMembers ms
pairs_json (object ns) h ms is = subst AreJsonMembers (same_Some ns ms is) h
pairs_json null h ms is = absurd (none-some ms is)
pairs_json (bool b) h ms is = absurd (none-some ms is)
pairs_json (int z) h ms is = absurd (none-some ms is)
pairs_json (number t) h ms is = absurd (none-some ms is)
pairs_json (text t) h ms is = absurd (none-some ms is)
pairs_json (bytes t) h ms is = absurd (none-some ms is)
pairs_json (tag k n) h ms is = absurd (none-some ms is)
pairs_json (opaque b) h ms is = absurd (none-some ms is)
pairs_json (list ns) h ms is = absurd (none-some ms is)

text_there_utf8 : (n : Node) → IsJson n → TextThere (text_in n)
text_there_utf8 (text t) h = h
text_there_utf8 null h = tt
text_there_utf8 (bool b) h = tt
text_there_utf8 (int z) h = tt
text_there_utf8 (number t) h = tt
text_there_utf8 (bytes t) h = tt
text_there_utf8 (tag k n) h = tt
text_there_utf8 (opaque b) h = tt
text_there_utf8 (list ns) h = tt
text_there_utf8 (object ms) h = tt

value_utf8 : (form : PropertyForm) (n : Node) → IsJson n → TextThere (written_value form n)
value_utf8 Reference n h = text_there_utf8 n h
value_utf8 References n h = ids_utf8 (entries_in n) (entries_json n h)
value_utf8 NamedReferences n h = named_utf8 (pairs_in n) (pairs_json n h)
value_utf8 Text n h = node_utf8 n h
value_utf8 Rename n h = pairs_utf8 (pairs_in n) (pairs_json n h)

-- what stands under a name
named_there : (form : PropertyForm) (name : List ℕ) (ms : Members) → AreJsonMembers ms → TextThere (value_there form (tree_named name ms))
named_there form name no_members h = tt
named_there form name (member k n ms) h = by (named_there form name ms h.2) (bytes_eq k name)
  where
    by : TextThere (value_there form (tree_named name ms)) → (b : Bool)
        → TextThere (value_there form (if b then Some n else tree_named name ms))
    by rest true = value_utf8 form n h.1
    by rest false = rest

line_utf8 : (name : List ℕ) (o : Option (List ℕ)) → IsUtf8 name → TextThere o → IsUtf8 (field_line name o)
line_utf8 name None u h = IsUtf8-nil
line_utf8 name (Some value) u h =
    two _ (10 ∷ [])
    (two _ value (two _ (codes ": ") (two indent name indent_utf8 u) (utf8 (codes ": ") refl)) h) feed

fields_utf8 : (fs : TypeFields) → are_ascii fs ≡ true → (ms : Members) → AreJsonMembers ms → IsUtf8 (field_lines fs ms)
fields_utf8 [] plain ms h = IsUtf8-nil
fields_utf8 (f ∷ fs) plain ms h =
    let parts = both (list_all is_ascii f.0) (are_ascii fs) plain in
    two (field_line f.0 (value_there f.1 (tree_named f.0 ms))) (field_lines fs ms)
    (line_utf8 f.0 (value_there f.1 (tree_named f.0 ms)) (utf8 f.0 parts.0) (named_there f.1 f.0 ms h)) (fields_utf8 fs parts.1 ms h)

lines_utf8 : (fs : TypeFields) → are_ascii fs ≡ true → (o : Option Members) → ((ms : Members) → o ≡ Some ms → AreJsonMembers ms)
    → IsUtf8 (body_lines fs o)
lines_utf8 fs plain None h = IsUtf8-nil
lines_utf8 fs plain (Some ms) h = fields_utf8 fs plain ms (h ms refl)

braced_utf8 : (lines : List ℕ) → IsUtf8 lines → IsUtf8 (braced lines)
braced_utf8 lines u = two (codes " {\n") _ (utf8 (codes " {\n") refl) (two lines (codes "}\n") u (utf8 (codes "}\n") refl))

-- shapes, and the whole text
module _ (shapes : ShapeMap) (json : (id : List ℕ) → FoundIsJson id (fin.get shapes id)) where
  values_body : (kind : Kind) (body : Node) → IsJson body → IsUtf8 (braced (body_lines (property_forms kind) (pairs_in body)))
  values_body kind body h =
      let plain = both (list_all is_ascii (kind_name kind)) (are_ascii (property_forms kind)) (kind_plain kind) in
      braced_utf8 (body_lines (property_forms kind) (pairs_in body))
      (lines_utf8 (property_forms kind) plain.1 (pairs_in body) (pairs_json body h))

  names_body : (ids : List (List ℕ)) → IsUtf8 (braced (member_lines false shapes ids))
  names_body ids = braced_utf8 (member_lines false shapes ids) (members_utf8 shapes json false ids)

  members_body : (ids : List (List ℕ)) → IsUtf8 (braced (member_lines true shapes ids))
  members_body ids = braced_utf8 (member_lines true shapes ids) (members_utf8 shapes json true ids)

  body_utf8 : (kind : Kind) (ids : List (List ℕ)) (body : Node) → IsJson body → IsUtf8 (body_in_form (written_form kind) shapes kind ids body)
  body_utf8 Enum ids body h = names_body ids
  body_utf8 IntEnum ids body h = names_body ids
  body_utf8 list_kind ids body h = members_body ids
  body_utf8 Map ids body h = members_body ids
  body_utf8 Structure ids body h = members_body ids
  body_utf8 Union ids body h = members_body ids
  body_utf8 Service ids body h = values_body Service body h
  body_utf8 Operation ids body h = values_body Operation body h
  body_utf8 Resource ids body h = values_body Resource body h
  body_utf8 Blob ids body h = feed
  body_utf8 Boolean ids body h = feed
  body_utf8 text_kind ids body h = feed
  body_utf8 Byte ids body h = feed
  body_utf8 Short ids body h = feed
  body_utf8 Integer ids body h = feed
  body_utf8 Long ids body h = feed
  body_utf8 Float ids body h = feed
  body_utf8 Double ids body h = feed
  body_utf8 BigInteger ids body h = feed
  body_utf8 BigDecimal ids body h = feed
  body_utf8 Timestamp ids body h = feed
  body_utf8 Document ids body h = feed

  shape_utf8 : (name : List ℕ) (s : ShapeEntry) → IsUtf8 name → IsJson s.properties → AreJsonPairs (fin.entries s.traits)
      → IsUtf8 (shape_text shapes name s.kind s.members s.properties (fin.entries s.traits))
  shape_utf8 name s u body traits =
      let plain = both (list_all is_ascii (kind_name s.kind)) (are_ascii (property_forms s.kind)) (kind_plain s.kind) in
      two (trait_lines [] (fin.entries s.traits)) _ (traits_utf8 [] IsUtf8-nil (fin.entries s.traits) traits)
      (two _ (body_in_form (written_form s.kind) shapes s.kind s.members s.properties)
      (two _ name (two (kind_name s.kind) (codes " ") (utf8 (kind_name s.kind) plain.0) (utf8 (codes " ") refl)) u)
      (body_utf8 s.kind s.members s.properties body))

  module _ (names : (id : List ℕ) (s : ShapeEntry) → fin.get shapes id ≡ Some (shape_entry s) → IsUtf8 (local_part id))
      (namespace : List ℕ) where
    entry_utf8 : (id : List ℕ) (e : Entry) → fin.get shapes id ≡ Some e → EntryIsJson id e → IsUtf8 (written_entry shapes namespace id e)
    entry_utf8 id (member_entry m) found h = IsUtf8-nil
    entry_utf8 id (shape_entry s) found h = by (is_written namespace id)
      where
        by : (b : Bool) → IsUtf8 (if b then 10 ∷ written_shape shapes id s else [])
        by true = behind_ascii 10 (written_shape shapes id s) refl (shape_utf8 (local_part id) s (names id s found) h.1 h.2)
        by false = IsUtf8-nil

    shapes_utf8 : (es : List (List ℕ × Entry)) → Each (λ k e. (fin.get shapes k ≡ Some e) × EntryIsJson k e) es
        → IsUtf8 (shape_lines shapes namespace es)
    shapes_utf8 [] h = IsUtf8-nil
    shapes_utf8 (e ∷ es) h =
        two (written_entry shapes namespace e.0 e.1) (shape_lines shapes namespace es) (entry_utf8 e.0 e.1 h.0.0 h.0.1) (shapes_utf8 es h.1)

pub idl_utf8 : (g : GraphMaps) → ((id : List ℕ) (e : Entry) → fin.get g.shapes id ≡ Some e → EntryIsJson id e)
    → ((id : List ℕ) (s : ShapeEntry) → fin.get g.shapes id ≡ Some (shape_entry s) → IsUtf8 (local_part id))
    → AreJsonPairs (fin.entries g.metadata) → (namespace : List ℕ) → IsNamespace namespace → IsUtf8 (written_idl g namespace)
idl_utf8 g json names metadata namespace is =
    two _ (shape_lines g.shapes namespace (fin.entries g.shapes))
    (two _ (10 ∷ [])
    (two _ namespace
    (two _ (codes "namespace ")
    (two (codes "$version: \"2.0\"\n") (metadata_lines (fin.entries g.metadata)) (utf8 (codes "$version: \"2.0\"\n") refl)
    (metadata_utf8 (fin.entries g.metadata) metadata))
    (utf8 (codes "namespace ") refl))
    (namespace_utf8 namespace is))
    feed)
    (shapes_utf8 g.shapes (λ id. found id (fin.get g.shapes id) refl) names namespace (fin.entries g.shapes)
    (each_has (λ k e. (fin.get g.shapes k ≡ Some e) × EntryIsJson k e) (fin.entries g.shapes)
    (λ k e there. let at = has_get g.shapes k e there in (at, json k e at))))
  where
    found : (id : List ℕ) (o : Option Entry) → fin.get g.shapes id ≡ o → FoundIsJson id o
    found id None is = tt
    found id (Some e) is = json id e is

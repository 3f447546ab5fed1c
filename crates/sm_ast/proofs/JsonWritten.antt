-- What is written for a graph whose values are JSON, and whose names and ids are UTF-8, is a tree of JSON.
use Rattle.std.proofs.Common.{◌≡◌, ℕ, ◌<◌, inl, inr, Bool, true, cond, List, [], ◌∷◌, ◌++◌, Option, Some, None, refl, sym, ap, subst}
use Rattle.std.proofs.Common.{arith, IsUtf8}
use Rattle.std.specs.Prelude.{if◌then◌else◌, codes}
use Rattle.std.specs.FinMap as fin
use Rattle.std.specs.FinMap.{find, get-entries, slice_cmp-IsAntisymmetric, nat_cmp-IsAntisymmetric}
use Rattle.std.specs.Ordering.{is_eq}
use Rattle.std.specs.declared.cmp.Ordering.{Ordering}
use Rattle.std.specs.declared.cmp.Ordering.TheVariants.{Less, Equal, Greater}
use Rattle.std.specs.Char.{is_ascii}
use Rattle.std.specs.List.{list_all}
use Rattle.std.proofs.lemmas.Bool.Decides.{nat_tests}
use Rattle.std.proofs.lemmas.List.Sums.{AllPass-from_list_all}
use Rattle.std.proofs.lemmas.Str.{IsUtf8-from_ascii}
use Rattle.std.proofs.lemmas.Str.Ascii.{IsAscii-from_all}
use Rattle.sm_tree.specs.Node.{Node, Nodes, Members, null, bool, int, number, text, bytes, tag, opaque, list, object, no_nodes, node}
use Rattle.sm_tree.specs.Node.{no_members, member}
use Rattle.sm_tree.specs.Node.{nodes_of, members_of}
use Rattle.sm_tree.specs.Json.{IsJson, AreJson, AreJsonMembers}
use Rattle.sm_model.specs.Kinds.{MemberForm, none, exactly, any, member_form, kind_name}
use Rattle.sm_model.specs.Properties.{TypeFields, property_forms}
use Rattle.sm_model.specs.Graphs.{text_cmp, Entry, shape_entry, member_entry, ShapeMap, GraphMaps}
use Rattle.sm_model.proofs.MapFacts.{Each}
use Rattle.sm_model.specs.declared.kind.Kind.{Kind}
use Rattle.sm_model.specs.declared.kind.Kind.TheVariants.{Blob, Boolean, Text as text_kind, Enum, Byte, Short, Integer, IntEnum, Long}
use Rattle.sm_model.specs.declared.kind.Kind.TheVariants.{Float, Double}
use Rattle.sm_model.specs.declared.kind.Kind.TheVariants.{BigInteger, BigDecimal, Timestamp, Document, List as list_kind, Map, Structure}
use Rattle.sm_model.specs.declared.kind.Kind.TheVariants.{Union}
use Rattle.sm_model.specs.declared.kind.Kind.TheVariants.{Service, Operation, Resource}
use Rattle.sm_model.specs.declared.property.PropertyForm.{PropertyForm}
use Rattle.sm_model.specs.declared.property.PropertyForm.TheVariants.{Reference, References, NamedReferences, Text, Rename}
use Rattle.sm_tree.specs.Parts.{tree_named}
use Rattle.sm_model.specs.PreludeShapes.{is_prelude_id}
use Rattle.sm_ast.specs.Written.{WrittenPairs, field_there, filled_list, filled_object, member_there, property_there}
use Rattle.sm_ids.specs.TextParts.{member_name}
use Rattle.sm_ast.specs.Written.{shape_object, written_ast, written_entries, written_entry, written_in_form, written_members}
use Rattle.sm_ast.specs.Written.{written_pairs, written_properties, written_property, written_reference, written_shapes}
use Rattle.sm_ast.specs.Written.{written_statement, written_traits}
use Rattle.sm_ast.specs.PartsSaid.{entries_said, pairs_said}
use Rattle.sm_ast.proofs.JsonParts.{json_named, json_pairs}
use Rattle.sm_ast.proofs.Judged.{both_true, either_way}

-- names and values that may be written as JSON
abbrev pub AreJsonPairs : List (List ℕ × Node) → Type 0
AreJsonPairs ps = AreJsonMembers (members_of ps)

-- what stands under an id
abbrev pub EntryIsJson : List ℕ → Entry → Type 0
EntryIsJson id (shape_entry s) = IsUtf8 id × IsJson s.properties × AreJsonPairs (fin.entries s.traits)
EntryIsJson id (member_entry m) = IsUtf8 (member_name id) × IsUtf8 m.target × AreJsonPairs (fin.entries m.traits)

abbrev pub AreJsonEntries : List (List ℕ × Entry) → Type 0
AreJsonEntries es = Each EntryIsJson es

pub record IsJsonGraph (g : GraphMaps) : Type 0 where
  pub shapes : AreJsonEntries (fin.entries g.shapes)
  pub metadata : AreJsonPairs (fin.entries g.metadata)

-- texts of ASCII
below : (c : ℕ) → is_ascii c ≡ true → c < 128
below c h = grind (arith, nat_tests)

pub utf8 : (t : List ℕ) → list_all is_ascii t ≡ true → IsUtf8 t
utf8 t h = IsUtf8-from_ascii t (IsAscii-from_all t (λ k d lt. below _ (AllPass-from_list_all is_ascii t h k d lt)))

-- of what may be missing
abbrev JsonThere : Option Node → Type 0
JsonThere None = Unit {0}
JsonThere (Some n) = IsJson n

json_field : (name : List ℕ) (o : Option Node) → IsUtf8 name → JsonThere o → AreJsonPairs (field_there name o)
json_field name None u h = tt
json_field name (Some n) u h = (u, h, tt)

json_joined : (xs ys : WrittenPairs) → AreJsonPairs xs → AreJsonPairs ys → AreJsonPairs (xs ++ ys)
json_joined [] ys h k = k
json_joined (x ∷ xs) ys h k = (h.0, h.1, json_joined xs ys h.2 k)

json_object : (ms : Members) → AreJsonMembers ms → JsonThere (filled_object ms)
json_object no_members h = tt
json_object (member k n ms) h = h

json_list : (ns : Nodes) → AreJson ns → JsonThere (filled_list ns)
json_list no_nodes h = tt
json_list (node n ns) h = h

-- references
json_reference : (id : Node) → IsJson id → IsJson (written_reference id)
json_reference id h = (utf8 (codes "target") refl, h, tt)

json_entries : (ns : Nodes) → AreJson ns → AreJson (nodes_of (written_entries ns))
json_entries no_nodes h = tt
json_entries (node n ns) h = (json_reference n h.0, json_entries ns h.1)

json_references : (ms : Members) → AreJsonMembers ms → AreJsonPairs (written_pairs ms)
json_references no_members h = tt
json_references (member k n ms) h = (h.0, json_reference n h.1, json_references ms h.2)

json_entries_said : (n : Node) → IsJson n → AreJson (entries_said n)
json_entries_said null json = tt
json_entries_said (bool b) json = tt
json_entries_said (int z) json = tt
json_entries_said (number t) json = tt
json_entries_said (text t) json = tt
json_entries_said (bytes t) json = tt
json_entries_said (tag k n) json = tt
json_entries_said (opaque b) json = tt
json_entries_said (list ns) json = json
json_entries_said (object ms) json = tt

-- fields of operations, services and resources
json_property : (form : PropertyForm) (n : Node) → IsJson n → JsonThere (written_property form n)
json_property Reference n h = json_reference n h
json_property References n h =
    json_list (nodes_of (written_entries (entries_said n))) (json_entries (entries_said n) (json_entries_said n h))
json_property NamedReferences n h =
    json_object (members_of (written_pairs (pairs_said n))) (json_references (pairs_said n) (json_pairs n h))
json_property Text n h = h
json_property Rename n h = json_object (pairs_said n) (json_pairs n h)

json_property_there : (form : PropertyForm) (name : List ℕ) (ms : Members) → AreJsonMembers ms → (o : Option Node) → tree_named name ms ≡ o
    → JsonThere (property_there form o)
json_property_there form name ms h None there = tt
json_property_there form name ms h (Some n) there = json_property form n (json_named name ms n h there)

abbrev AreUtf8Names : TypeFields → Type 0
AreUtf8Names [] = Unit {0}
AreUtf8Names (f ∷ fs) = IsUtf8 f.0 × AreUtf8Names fs

json_properties : (fs : TypeFields) (ms : Members) → AreUtf8Names fs → AreJsonMembers ms → AreJsonPairs (written_properties fs ms)
json_properties [] ms u h = tt
json_properties (f ∷ fs) ms u h =
    json_joined (field_there f.0 (property_there f.1 (tree_named f.0 ms))) (written_properties fs ms)
    (json_field f.0 (property_there f.1 (tree_named f.0 ms)) u.0 (json_property_there f.1 f.0 ms h (tree_named f.0 ms) refl))
    (json_properties fs ms u.1 h)

abbrev are_ascii : TypeFields → Bool
are_ascii fs = list_all (λ f. list_all is_ascii f.0) fs

utf8_names : (fs : TypeFields) → are_ascii fs ≡ true → AreUtf8Names fs
utf8_names [] h = tt
utf8_names (f ∷ fs) h = let parts = both_true (list_all is_ascii f.0) (are_ascii fs) h in (utf8 f.0 parts.0, utf8_names fs parts.1)

forms_ascii : (k : Kind) → are_ascii (property_forms k) ≡ true
forms_ascii Operation = refl
forms_ascii Service = refl
forms_ascii Resource = refl
forms_ascii list_kind = refl
forms_ascii Map = refl
forms_ascii Structure = refl
forms_ascii Union = refl
forms_ascii Enum = refl
forms_ascii IntEnum = refl
forms_ascii Blob = refl
forms_ascii Boolean = refl
forms_ascii text_kind = refl
forms_ascii Byte = refl
forms_ascii Short = refl
forms_ascii Integer = refl
forms_ascii Long = refl
forms_ascii Float = refl
forms_ascii Double = refl
forms_ascii BigInteger = refl
forms_ascii BigDecimal = refl
forms_ascii Timestamp = refl
forms_ascii Document = refl

utf8_forms : (k : Kind) → AreUtf8Names (property_forms k)
utf8_forms k = utf8_names (property_forms k) (forms_ascii k)

utf8_kind : (k : Kind) → list_all is_ascii (kind_name k) ≡ true
utf8_kind Operation = refl
utf8_kind Service = refl
utf8_kind Resource = refl
utf8_kind list_kind = refl
utf8_kind Map = refl
utf8_kind Structure = refl
utf8_kind Union = refl
utf8_kind Enum = refl
utf8_kind IntEnum = refl
utf8_kind Blob = refl
utf8_kind Boolean = refl
utf8_kind text_kind = refl
utf8_kind Byte = refl
utf8_kind Short = refl
utf8_kind Integer = refl
utf8_kind Long = refl
utf8_kind Float = refl
utf8_kind Double = refl
utf8_kind BigInteger = refl
utf8_kind BigDecimal = refl
utf8_kind Timestamp = refl
utf8_kind Document = refl

-- traits, and members that a look-up finds
json_traits : (ts : WrittenPairs) → AreJsonPairs ts → AreJsonPairs (written_traits ts)
json_traits ts h = json_field (codes "traits") (filled_object (members_of ts)) (utf8 (codes "traits") refl) (json_object (members_of ts) h)

abbrev FoundIsJson : List ℕ → Option Entry → Type 0
FoundIsJson id None = Unit {0}
FoundIsJson id (Some e) = EntryIsJson id e

tied : (r : Ordering) → is_eq r ≡ true → r ≡ Equal
tied Equal h = refl
tied Less h = absurd (subst (λ b. cond b ⊥ (Unit {0})) h tt)
tied Greater h = absurd (subst (λ b. cond b ⊥ (Unit {0})) h tt)

same_text : (a b : List ℕ) → is_eq (text_cmp a b) ≡ true → a ≡ b
same_text a b h = slice_cmp-IsAntisymmetric nat_cmp-IsAntisymmetric a b (tied (text_cmp a b) h)

found_json : (id : List ℕ) (es : List (List ℕ × Entry)) → AreJsonEntries es → FoundIsJson id (find text_cmp id es)
found_json id [] h = tt
found_json id (e ∷ es) h = elim (either_way (is_eq (text_cmp id e.0))) [
  | inl same ↦ subst (FoundIsJson id) (ap (λ b. cond b (Some e.1) (find text_cmp id es)) (sym same))
      (subst (λ k. EntryIsJson k e.1) (sym (same_text id e.0 same)) h.0)
  | inr other ↦ subst (FoundIsJson id) (ap (λ b. cond b (Some e.1) (find text_cmp id es)) (sym other)) (found_json id es h.1)
]

json_found : (id : List ℕ) (o : Option Entry) → FoundIsJson id o → AreJsonPairs (field_there (member_name id) (written_entry o))
json_found id None h = tt
json_found id (Some (shape_entry s)) h = tt
json_found id (Some (member_entry m)) h = (h.0, (utf8 (codes "target") refl, h.1, json_traits (fin.entries m.traits) h.2), tt)

json_members : (shapes : ShapeMap) → AreJsonEntries (fin.entries shapes) → (ids : List (List ℕ)) → AreJsonPairs (written_members shapes ids)
json_members shapes h [] = tt
json_members shapes h (id ∷ ids) =
    json_joined (member_there shapes id) (written_members shapes ids)
    (json_found id (fin.get shapes id) (subst (FoundIsJson id) (sym (get-entries shapes id)) (found_json id (fin.entries shapes) h)))
    (json_members shapes h ids)

json_in_form : (form : MemberForm) (ps : WrittenPairs) → AreJsonPairs ps → AreJsonPairs (written_in_form form ps)
json_in_form none ps h = tt
json_in_form (exactly names) ps h = h
json_in_form any ps h = (utf8 (codes "members") refl, h, tt)

-- shapes
json_shape : (kind : Kind) (members : WrittenPairs) (body : Members) (traits : WrittenPairs) → AreJsonPairs members → AreJsonMembers body
    → AreJsonPairs traits → IsJson (shape_object kind members body traits)
json_shape kind members body traits a b c =
    let head : AreJsonPairs ((codes "type", text (kind_name kind)) ∷ []) =
    (utf8 (codes "type") refl, utf8 (kind_name kind) (utf8_kind kind), tt) in
    let named = json_joined ((codes "type", text (kind_name kind)) ∷ []) (written_in_form (member_form kind) members) head
    (json_in_form (member_form kind) members a) in
    let with_body = json_joined (((codes "type", text (kind_name kind)) ∷ []) ++ written_in_form (member_form kind) members)
    (written_properties (property_forms kind) body) named (json_properties (property_forms kind) body (utf8_forms kind) b) in
    json_joined (((codes "type", text (kind_name kind)) ∷ []) ++ written_in_form (member_form kind) members
    ++ written_properties (property_forms kind) body) (written_traits traits) with_body (json_traits traits c)

json_statement : (shapes : ShapeMap) → AreJsonEntries (fin.entries shapes) → (id : List ℕ) (e : Entry) → EntryIsJson id e
    → AreJsonPairs (field_there id (written_statement shapes id e))
json_statement shapes all id (member_entry m) h = tt
json_statement shapes all id (shape_entry s) h = elim (either_way (is_prelude_id id)) [
  | inl known ↦ subst (λ b. AreJsonPairs (field_there id (if b then None else Some (shape_object s.kind (written_members shapes s.members)
      (pairs_said s.properties) (fin.entries s.traits))))) (sym known) tt
  | inr own ↦ subst (λ b. AreJsonPairs (field_there id (if b then None else Some (shape_object s.kind (written_members shapes s.members)
      (pairs_said s.properties) (fin.entries s.traits))))) (sym own) (
        h.0,
        json_shape s.kind (written_members shapes s.members) (pairs_said s.properties) (fin.entries s.traits)
            (json_members shapes all s.members) (json_pairs s.properties h.1) h.2,
        tt,
      )
]

json_shapes : (shapes : ShapeMap) → AreJsonEntries (fin.entries shapes) → (es : List (List ℕ × Entry)) → AreJsonEntries es
    → AreJsonPairs (written_shapes shapes es)
json_shapes shapes all [] h = tt
json_shapes shapes all (e ∷ es) h =
    json_joined (field_there e.0 (written_statement shapes e.0 e.1)) (written_shapes shapes es) (json_statement shapes all e.0 e.1 h.0)
    (json_shapes shapes all es h.1)

pub written_json : (g : GraphMaps) → IsJsonGraph g → IsJson (written_ast g)
written_json g h =
    let metadata = fin.entries g.metadata in
    let shapes = written_shapes g.shapes (fin.entries g.shapes) in
    let version : AreJsonPairs ((codes "smithy", text (codes "2.0")) ∷ []) = (utf8 (codes "smithy") refl, utf8 (codes "2.0") refl, tt) in
    json_joined (((codes "smithy", text (codes "2.0")) ∷ []) ++ field_there (codes "metadata") (filled_object (members_of metadata)))
    (field_there (codes "shapes") (filled_object (members_of shapes)))
    (json_joined ((codes "smithy", text (codes "2.0")) ∷ []) (field_there (codes "metadata") (filled_object (members_of metadata))) version
    (json_field (codes "metadata") (filled_object (members_of metadata)) (utf8 (codes "metadata") refl)
    (json_object (members_of metadata) h.metadata)))
    (json_field (codes "shapes") (filled_object (members_of shapes)) (utf8 (codes "shapes") refl)
    (json_object (members_of shapes) (json_shapes g.shapes h.shapes (fin.entries g.shapes) h.shapes)))

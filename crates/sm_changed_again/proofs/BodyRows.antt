-- What is left of a body, where ids become others or are gone, is a body of its type, and one that a statement comes to: its fields stand
-- in the order of the type, each of its form and with something in it.
use Rattle.std.proofs.Common.{◌≡◌, inl, inr, ℕ, Bool, true, false, List, [], ◌∷◌, ◌++◌, map, Option, Some, None, refl, sym, ap, subst}
use Rattle.std.proofs.Common.{◌∙◌, bytes_eq}
use Rattle.std.specs.Prelude.{◌||◌, if◌then◌else◌}
use Rattle.std.specs.Char.{is_ascii}
use Rattle.std.specs.List.{list_all, list_any}
use Rattle.std.specs.Option.{option_map, unwrap_or}
use Rattle.std.proofs.lemmas.Bool.{and_parts, cases_Bool, true≢false}
use Rattle.std.proofs.lemmas.Option.{none-some, same_Some}
use Rattle.std.proofs.lemmas.Slice.Eq.{bytes_eq-Decides}
use Rattle.sm_ids.specs.IdText.{IsIdText}
use Rattle.sm_tree.specs.Json.{AreJsonMembers}
use Rattle.sm_tree.specs.Node.{Node, Nodes, Members, null, bool, int, number, text, bytes, tag, opaque, list, object, no_nodes, node}
use Rattle.sm_tree.specs.Node.{no_members, member, members_of}
use Rattle.sm_tree.specs.Parts.{text_in, tree_named}
use Rattle.sm_tree.specs.Same.{AreDistinct, HasName, HasPair, IsNode}
use Rattle.sm_model.specs.Formed.{DifferInNames, StandsAmong}
use Rattle.sm_model.specs.Given.{AreNodeFields, HasNeeded, HasShapeBody, HaveNames, NodeHasForm}
use Rattle.sm_model.specs.PreludeShapes.{unit_id}
use Rattle.sm_model.specs.Properties.{TypeFields, form_named, needed_fields, property_forms}
use Rattle.sm_model.specs.declared.kind.Kind.{Kind}
use Rattle.sm_model.specs.declared.kind.Kind.TheVariants.{Blob, Boolean, Text as text_kind, Enum, Byte, Short, Integer, IntEnum, Long}
use Rattle.sm_model.specs.declared.kind.Kind.TheVariants.{Float, Double, BigInteger}
use Rattle.sm_model.specs.declared.kind.Kind.TheVariants.{BigDecimal, Timestamp, Document, List as list_kind, Map, Structure, Union}
use Rattle.sm_model.specs.declared.kind.Kind.TheVariants.{Service, Operation, Resource}
use Rattle.sm_model.specs.declared.property.PropertyForm.{PropertyForm}
use Rattle.sm_model.specs.declared.property.PropertyForm.TheVariants.{Reference, References, NamedReferences, Text, Rename}
use Rattle.sm_model.proofs.FieldsAmong.{AreAmong, fields_among}
use Rattle.sm_ast.proofs.JsonWritten.{utf8}
use Rattle.sm_merge.specs.Stated.{body_of, field_stated, fields_stated, is_empty}
use Rattle.sm_merge.proofs.BodiesAgain.{pairs_or_none}
use Rattle.sm_merge.proofs.PreludeGiven.{clash, differ_by_test, stands_by_test}
use Rattle.sm_transform.specs.IdChanges.{IdChange, body_after, entries_after, field_after, fields_after, is_needed, keys_after, list_left}
use Rattle.sm_transform.specs.IdChanges.{object_left, put_pair, text_after, value_after, values_after}
use Rattle.sm_changed_again.proofs.LeftValues.{IsFieldLeft, KeysApart, field_left}

-- fields of a type in its order, with something in each
pub data AreRows : TypeFields → Members → Type 0 where
  rows_end : AreRows [] no_members
  row_passed : {f : List ℕ × PropertyForm} {fs : TypeFields} {ms : Members} → AreRows fs ms → AreRows (f ∷ fs) ms
  row_there : {f : List ℕ × PropertyForm} {fs : TypeFields} {n : Node} {ms : Members} → is_empty n ≡ false → NodeHasForm f.1 n → IsNode n
      → AreRows fs ms → AreRows (f ∷ fs) (member f.0 n ms)

-- those that a statement comes to are such
module _ (kind : Kind) (given : Members) where
  abbrev all : TypeFields
  all = property_forms kind

  record AreFieldNodes (ms : Members) : Type 0 where
    fields : AreNodeFields all ms
    json : AreJsonMembers ms
    distinct : AreDistinct ms

  behind : (k : List ℕ) (n : Node) (ms : Members) → AreFieldNodes (member k n ms) → AreFieldNodes ms
  behind k n ms h = record { fields = h.fields.1; json = h.json.2; distinct = h.distinct.2 }

  rows_stated : (fs : TypeFields) → AreAmong all fs → AreFieldNodes (members_of (fields_stated kind fs given))
      → AreRows fs (members_of (fields_stated kind fs given))
  rows_stated [] among h = rows_end
  rows_stated (f ∷ fs) among h = by_found (tree_named f.0 given) (rows_stated fs among.1) h
    where
      rest : List (List ℕ × Node)
      rest = fields_stated kind fs given

      there : (n : Node) → is_empty n ≡ false → (AreFieldNodes (members_of rest) → AreRows fs (members_of rest))
          → AreFieldNodes (member f.0 n (members_of rest)) → AreRows (f ∷ fs) (member f.0 n (members_of rest))
      there n full later is =
          let field = is.fields.0 in
          let form : field.0 ≡ f.1 = same_Some field.0 f.1 (sym field.1 ∙ among.0) in
          row_there full (subst (λ x. NodeHasForm x n) form field.2) (is.json.1, is.distinct.1) (later (behind f.0 n (members_of rest) is))

      if_needed : (b : Bool) → (AreFieldNodes (members_of rest) → AreRows fs (members_of rest))
          → AreFieldNodes (members_of ((if b then (f.0, text unit_id) ∷ [] else []) ++ rest))
          → AreRows (f ∷ fs) (members_of ((if b then (f.0, text unit_id) ∷ [] else []) ++ rest))
      if_needed true later is = there (text unit_id) refl later is
      if_needed false later is = row_passed (later is)

      if_full : (n : Node) (b : Bool) → is_empty n ≡ b → (AreFieldNodes (members_of rest) → AreRows fs (members_of rest))
          → AreFieldNodes (members_of ((if b then [] else (f.0, n) ∷ []) ++ rest))
          → AreRows (f ∷ fs) (members_of ((if b then [] else (f.0, n) ∷ []) ++ rest))
      if_full n true empty later is = row_passed (later is)
      if_full n false full later is = there n full later is

      by_found : (o : Option Node) → (AreFieldNodes (members_of rest) → AreRows fs (members_of rest))
          → AreFieldNodes (members_of (field_stated kind f.0 o ++ rest)) → AreRows (f ∷ fs) (members_of (field_stated kind f.0 o ++ rest))
      by_found None later is = if_needed (list_any (bytes_eq f.0) (needed_fields kind)) later is
      by_found (Some n) later is = if_full n (is_empty n) refl later is

module _ (change : IdChange) where
  -- something is left of a field with something in it, or the field is gone
  abbrev IsFull : Option Node → Type 0
  IsFull None = Unit {0}
  IsFull (Some m) = is_empty m ≡ false

  text_full : (o : Option (List ℕ)) → IsFull (option_map text o)
  text_full None = tt
  text_full (Some t) = refl

  reference_full : (n : Node) (o : Option (List ℕ)) → is_empty n ≡ false → IsFull (text_after change n o)
  reference_full n None full = full
  reference_full n (Some id) full = text_full (change id)

  list_full : (n : Node) (ns left : Nodes) → IsFull (list_left (node n ns) left)
  list_full n ns no_nodes = tt
  list_full n ns (node m left) = refl

  object_full : (k : List ℕ) (n : Node) (ms left : Members) → IsFull (object_left (member k n ms) left)
  object_full k n ms no_members = tt
  object_full k n ms (member j m left) = refl

  listed_full : (n : Node) → is_empty n ≡ false → IsFull (value_after change References n)
  listed_full (list no_nodes) full = clash (is_empty (list no_nodes)) refl full
  listed_full (list (node n ns)) full = list_full n ns (entries_after change (node n ns))
  listed_full (object ms) full = full
  listed_full null full = refl
  listed_full (bool b) full = refl
  listed_full (int z) full = refl
  listed_full (number t) full = refl
  listed_full (text t) full = refl
  listed_full (bytes t) full = refl
  listed_full (tag k n) full = refl
  listed_full (opaque b) full = refl

  named_full : (n : Node) → is_empty n ≡ false → IsFull (value_after change NamedReferences n)
  named_full (object no_members) full = clash (is_empty (object no_members)) refl full
  named_full (object (member k n ms)) full = object_full k n ms (values_after change (member k n ms))
  named_full (list ns) full = full
  named_full null full = refl
  named_full (bool b) full = refl
  named_full (int z) full = refl
  named_full (number t) full = refl
  named_full (text t) full = refl
  named_full (bytes t) full = refl
  named_full (tag k n) full = refl
  named_full (opaque b) full = refl

  renames_full : (n : Node) → is_empty n ≡ false → IsFull (value_after change Rename n)
  renames_full (object no_members) full = clash (is_empty (object no_members)) refl full
  renames_full (object (member k n ms)) full = object_full k n ms (keys_after change (member k n ms))
  renames_full (list ns) full = full
  renames_full null full = refl
  renames_full (bool b) full = refl
  renames_full (int z) full = refl
  renames_full (number t) full = refl
  renames_full (text t) full = refl
  renames_full (bytes t) full = refl
  renames_full (tag k n) full = refl
  renames_full (opaque b) full = refl

  value_full : (form : PropertyForm) (n : Node) → is_empty n ≡ false → IsFull (value_after change form n)
  value_full Reference n full = reference_full n (text_in n) full
  value_full References n full = listed_full n full
  value_full NamedReferences n full = named_full n full
  value_full Text n full = full
  value_full Rename n full = renames_full n full

  kept_full : (n : Node) (o : Option Node) → is_empty n ≡ false → IsFull o → is_empty (unwrap_or o n) ≡ false
  kept_full n None full h = full
  kept_full n (Some m) full h = h

  field_full : (needed : Bool) (form : Option PropertyForm) (n : Node) → is_empty n ≡ false → IsFull (field_after change needed form n)
  field_full needed None n full = full
  field_full true (Some form) n full = kept_full n (value_after change form n) full (value_full form n full)
  field_full false (Some form) n full = value_full form n full

  module _ (ids : (id new : List ℕ) → IsIdText id → change id ≡ Some new → IsIdText new) (kind : Kind) where
    abbrev AllApart : Members → Type 0
    AllApart ms = (k : List ℕ) (rs : Members) → HasPair k (object rs) ms → form_named k (property_forms kind) ≡ Some Rename
        → KeysApart change ids rs

    rows_after : (fs : TypeFields) → AreAmong (property_forms kind) fs → (ms : Members) → AllApart ms → AreRows fs ms
        → AreRows fs (fields_after change kind ms)
    rows_after [] among no_members apart rows_end = rows_end
    rows_after [] among (member k n ms) apart r = elim r [ ]
    rows_after (f ∷ fs) among ms apart (row_passed later) = row_passed (rows_after fs among.1 ms apart later)
    rows_after (f ∷ fs) among (member k n ms) apart (row_there full form is later) =
        put (field_after change (is_needed kind f.0) (form_named f.0 (property_forms kind)) n)
        (field_full (is_needed kind f.0) (form_named f.0 (property_forms kind)) n full)
        (λ m found. field_left change ids (is_needed kind f.0) f.1 n m form is
        (λ renames rs same. apart f.0 rs (inl (refl, sym same)) (among.0 ∙ ap (λ x. Some x) renames))
        (sym (ap (λ o. field_after change (is_needed kind f.0) o n) among.0) ∙ found))
        (rows_after fs among.1 ms (λ j rs pair. apart j rs (inr pair)) later)
      where
        put : (o : Option Node) → IsFull o → ((m : Node) → o ≡ Some m → IsFieldLeft change ids f.1 m)
            → AreRows fs (fields_after change kind ms) → AreRows (f ∷ fs) (put_pair f.0 o (fields_after change kind ms))
        put None h left rest = row_passed rest
        put (Some m) h left rest = let l = left m refl in row_there h l.form_is l.is rest

  -- what a type needs stays
  needed_is : (b : Bool) (o : Option PropertyForm) (n : Node) → b ≡ true → (m : Node) × (field_after change b o n ≡ Some m)
  needed_is b None n is = (n, refl)
  needed_is true (Some form) n is = (unwrap_or (value_after change form n) n, refl)
  needed_is false (Some form) n is = absurd (true≢false (sym is))

  behind_name : (k l : List ℕ) (o : Option Node) (left : Members) → HasName k left → HasName k (put_pair l o left)
  behind_name k l None left h = h
  behind_name k l (Some m) left h = inr h

  name_left : (kind : Kind) (k : List ℕ) (ms : Members) → is_needed kind k ≡ true → HasName k ms → HasName k (fields_after change kind ms)
  name_left kind k no_members needed h = h
  name_left kind k (member l n ms) needed (inl same) =
      let s = needed_is (is_needed kind l) (form_named l (property_forms kind)) n (subst (λ x. is_needed kind x ≡ true) same needed) in
      subst (λ o. HasName k (put_pair l o (fields_after change kind ms))) (sym s.1) (inl same)
  name_left kind k (member l n ms) needed (inr h) =
      behind_name k l (field_after change (is_needed kind l) (form_named l (property_forms kind)) n) (fields_after change kind ms)
      (name_left kind k ms needed h)

  names_left : (kind : Kind) (ks : List (List ℕ)) (ms : Members) → ((k : List ℕ) → StandsAmong k ks → is_needed kind k ≡ true)
      → HaveNames ks ms → HaveNames ks (fields_after change kind ms)
  names_left kind [] ms needed h = tt
  names_left kind (k ∷ []) ms needed h = name_left kind k ms (needed k (inl refl)) h
  names_left kind (k ∷ j ∷ ks) ms needed h =
      (name_left kind k ms (needed k (inl refl)) h.0, names_left kind (j ∷ ks) ms (λ i among. needed i (inr among)) h.1)

-- rows come to themselves, where none that the type needs lacks
abbrev names_of : TypeFields → List (List ℕ)
names_of fs = map (λ f. f.0) fs

record AreFine (names : List (List ℕ)) : Type 0 where
  differ : DifferInNames names
  plain : list_all (list_all is_ascii) names ≡ true

no_names : AreFine []
no_names = record { differ = tt; plain = refl }

names_fine : (kind : Kind) → AreFine (names_of (property_forms kind))
names_fine Operation = record { differ = differ_by_test (names_of (property_forms Operation)) refl; plain = refl }
names_fine Service = record { differ = differ_by_test (names_of (property_forms Service)) refl; plain = refl }
names_fine Resource = record { differ = differ_by_test (names_of (property_forms Resource)) refl; plain = refl }
names_fine list_kind = no_names
names_fine Map = no_names
names_fine Structure = no_names
names_fine Union = no_names
names_fine Enum = no_names
names_fine IntEnum = no_names
names_fine Blob = no_names
names_fine Boolean = no_names
names_fine text_kind = no_names
names_fine Byte = no_names
names_fine Short = no_names
names_fine Integer = no_names
names_fine Long = no_names
names_fine Float = no_names
names_fine Double = no_names
names_fine BigInteger = no_names
names_fine BigDecimal = no_names
names_fine Timestamp = no_names
names_fine Document = no_names

other_name : (k j : List ℕ) (n : Node) (ms : Members) → (k ≡ j → ⊥) → tree_named k (member j n ms) ≡ tree_named k ms
other_name k j n ms other = elim (cases_Bool (bytes_eq j k)) [
  | inl same ↦ absurd (other (sym ((bytes_eq-Decides j k).0 same)))
  | inr apart ↦ ap (λ b. if b then Some n else tree_named k ms) apart
]

this_name : (k : List ℕ) (n : Node) (ms : Members) → tree_named k (member k n ms) ≡ Some n
this_name k n ms = ap (λ b. if b then Some n else tree_named k ms) ((bytes_eq-Decides k k).1 refl)

-- a name that isn't one of the fields has no row
no_row : (fs : TypeFields) (ms : Members) → AreRows fs ms → (k : List ℕ) → (StandsAmong k (names_of fs) → ⊥) → tree_named k ms ≡ None
no_row [] no_members rows_end k never = refl
no_row [] (member j n ms) r k never = elim r [ ]
no_row (f ∷ fs) ms (row_passed later) k never = no_row fs ms later k (λ among. never (inr among))
no_row (f ∷ fs) (member j n ms) (row_there full form is later) k never =
    other_name k f.0 n ms (λ same. never (inl same)) ∙ no_row fs ms later k (λ among. never (inr among))

name_found : (k : List ℕ) (ms : Members) → HasName k ms → tree_named k ms ≡ None → ⊥
name_found k no_members h none = absurd h
name_found k (member j n ms) h none = elim (cases_Bool (bytes_eq j k)) [
  | inl same ↦ none-some n (sym none ∙ ap (λ b. if b then Some n else tree_named k ms) same)
  | inr apart ↦ elim h [
    | inl here ↦ clash (bytes_eq j k) ((bytes_eq-Decides j k).1 (sym here)) apart
    | inr later ↦ name_found k ms later (sym (ap (λ b. if b then Some n else tree_named k ms) apart) ∙ none)
  ]
]

module _ (kind : Kind) (all : Members) (needed : (k : List ℕ) → list_any (bytes_eq k) (needed_fields kind) ≡ true → HasName k all) where
  not_needed : (k : List ℕ) → tree_named k all ≡ None → list_any (bytes_eq k) (needed_fields kind) ≡ false
  not_needed k none = elim (cases_Bool (list_any (bytes_eq k) (needed_fields kind))) [
    | inl is ↦ absurd (name_found k all (needed k is) none)
    | inr free ↦ free
  ]

  -- each field is looked up among all
  again : (fs : TypeFields) (ms : Members) → AreRows fs ms → DifferInNames (names_of fs)
      → ((k : List ℕ) → StandsAmong k (names_of fs) → tree_named k all ≡ tree_named k ms) → members_of (fields_stated kind fs all) ≡ ms
  again [] no_members rows_end differ look = refl
  again [] (member j n ms) r differ look = elim r [ ]
  again (f ∷ fs) ms (row_passed later) differ look =
      let none : tree_named f.0 all ≡ None = look f.0 (inl refl) ∙ no_row fs ms later f.0 differ.0 in
      let rest = again fs ms later differ.1 (λ k among. look k (inr among)) in
      ap (λ o. members_of (field_stated kind f.0 o ++ fields_stated kind fs all)) none
      ∙ ap (λ b. members_of ((if b then (f.0, text unit_id) ∷ [] else []) ++ fields_stated kind fs all)) (not_needed f.0 none) ∙ rest
  again (f ∷ fs) (member j n ms) (row_there full form is later) differ look =
      let found : tree_named f.0 all ≡ Some n = look f.0 (inl refl) ∙ this_name f.0 n ms in
      let rest = again fs ms later differ.1 (λ k among. look k (inr among)
      ∙ other_name k f.0 n ms (λ same. differ.0 (subst (λ i. StandsAmong i (names_of fs)) same among))) in
      ap (λ o. members_of (field_stated kind f.0 o ++ fields_stated kind fs all)) found
      ∙ ap (λ b. members_of ((if b then [] else (f.0, n) ∷ []) ++ fields_stated kind fs all)) full ∙ ap (member f.0 n) rest

-- the names that a type needs
needs : (ks : List (List ℕ)) (ms : Members) → HaveNames ks ms → (k : List ℕ) → list_any (bytes_eq k) ks ≡ true → HasName k ms
needs [] ms h k is = absurd (clash false is refl)
needs (j ∷ []) ms h k is = by_test (bytes_eq k j) refl is
  where
    by_test : (b : Bool) → bytes_eq k j ≡ b → (b || false) ≡ true → HasName k ms
    by_test true same is = subst (λ x. HasName x ms) (sym ((bytes_eq-Decides k j).0 same)) h
    by_test false apart is = absurd (clash false is refl)
needs (j ∷ i ∷ ks) ms h k is = by_test (λ later. needs (i ∷ ks) ms h.1 k later) (bytes_eq k j) refl is
  where
    by_test : (list_any (bytes_eq k) (i ∷ ks) ≡ true → HasName k ms) → (b : Bool) → bytes_eq k j ≡ b
        → (b || list_any (bytes_eq k) (i ∷ ks)) ≡ true → HasName k ms
    by_test rest true same is = subst (λ x. HasName x ms) (sym ((bytes_eq-Decides k j).0 same)) h.0
    by_test rest false apart is = rest is

-- rows are a body of the type
row_name : (fs : TypeFields) (ms : Members) → AreRows fs ms → (k : List ℕ) → HasName k ms → StandsAmong k (names_of fs)
row_name [] no_members rows_end k h = h
row_name [] (member j n ms) r k h = elim r [ ]
row_name (f ∷ fs) ms (row_passed later) k h = inr (row_name fs ms later k h)
row_name (f ∷ fs) (member j n ms) (row_there full form is later) k (inl same) = inl same
row_name (f ∷ fs) (member j n ms) (row_there full form is later) k (inr h) = inr (row_name fs ms later k h)

rows_are : (kind : Kind) (fs : TypeFields) → AreAmong (property_forms kind) fs → DifferInNames (names_of fs)
    → list_all (list_all is_ascii) (names_of fs) ≡ true → (ms : Members) → AreRows fs ms → AreFieldNodes kind ms ms
rows_are kind [] among differ plain no_members rows_end = record { fields = tt; json = tt; distinct = tt }
rows_are kind [] among differ plain (member j n ms) r = elim r [ ]
rows_are kind (f ∷ fs) among differ plain ms (row_passed later) =
    let parts = and_parts (list_all is_ascii f.0) (list_all (list_all is_ascii) (names_of fs)) plain in
    let rest = rows_are kind fs among.1 differ.1 parts.1 ms later in
    record { fields = rest.fields; json = rest.json; distinct = rest.distinct }
rows_are kind (f ∷ fs) among differ plain (member j n ms) (row_there full form is later) =
    let parts = and_parts (list_all is_ascii f.0) (list_all (list_all is_ascii) (names_of fs)) plain in
    let rest = rows_are kind fs among.1 differ.1 parts.1 ms later in record {
      fields = ((f.1, among.0, form), rest.fields);
      json = (utf8 f.0 parts.0, is.0, rest.json);
      distinct = ((λ h. differ.0 (row_name fs ms later f.0 h)), is.1, rest.distinct);
    }

-- the body that is left
pub record IsBodyLeft (change : IdChange) (kind : Kind) (n : Node) : Type 0 where
  pub body : HasShapeBody kind (body_after change kind n)
  pub comes : body_after change kind n ≡ body_of kind (body_after change kind n)

pub body_left : (change : IdChange) (ids : (id new : List ℕ) → IsIdText id → change id ≡ Some new → IsIdText new) (kind : Kind)
    (n given : Node) → n ≡ body_of kind given → (h : HasShapeBody kind n) → AllApart change ids kind h.pairs → IsBodyLeft change kind n
body_left change ids kind n given is h apart =
    let fs = property_forms kind in
    let P = pairs_or_none given in
    let pairs : Members = members_of (fields_stated kind fs P) in
    let left : Members = fields_after change kind pairs in
    let same : h.pairs ≡ pairs = ap pairs_or_none (sym h.is_object ∙ is) in
    let now : body_after change kind n ≡ object left = ap (body_after change kind) is in
    let node : IsNode (object pairs) = subst IsNode is h.is_node in
    let fine = names_fine kind in
    let stated = rows_stated kind P fs (fields_among kind)
    (record { fields = subst (AreNodeFields fs) same h.fields; json = node.0; distinct = node.1 }) in
    let rows = rows_after change ids kind fs (fields_among kind) pairs (subst (AllApart change ids kind) same apart) stated in
    let are = rows_are kind fs (fields_among kind) fine.differ fine.plain left rows in
    let needed : HasNeeded kind left = names_left change kind (needed_fields kind) pairs
    (λ k among. stands_by_test k (needed_fields kind) among) (subst (HasNeeded kind) same h.needed) in
    let once = again kind left (needs (needed_fields kind) left needed) fs left rows fine.differ (λ k among. refl) in record {
      body = record {
        pairs = left;
        is_object = now;
        is_node = subst IsNode (sym now) (are.json, are.distinct);
        fields = are.fields;
        needed = needed;
      };
      comes = now ∙ ap object (sym once) ∙ ap (body_of kind) (sym now);
    }

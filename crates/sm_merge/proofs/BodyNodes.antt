-- The body of a shape is a node: its fields are nodes, and their names differ.
use Rattle.std.proofs.Common.{◌≡◌, ◌⊎◌, inl, inr, ℕ, ◌<◌, Bool, true, false, List, [], ◌∷◌, ◌++◌, map, Option, Some, None, refl, sym, ap}
use Rattle.std.proofs.Common.{subst, arith, bytes_eq, IsUtf8}
use Rattle.std.specs.Prelude.{if◌then◌else◌, codes}
use Rattle.std.specs.List.{list_any}
use Rattle.std.specs.Option.{unwrap_or}
use Rattle.std.proofs.lemmas.Bool.Decides.{nat_tests}
use Rattle.std.proofs.lemmas.List.Sums.{AllPass-from_list_all}
use Rattle.std.proofs.lemmas.Str.{IsUtf8-from_ascii}
use Rattle.std.proofs.lemmas.Str.Ascii.{IsAscii-from_all}
use Rattle.sm_ids.specs.Identifier.{IsIdentifier, is_identifier_byte}
use Rattle.sm_ids.proofs.Identifiers.{made_of_bytes}
use Rattle.sm_ids.proofs.Parting.{id_ascii}
use Rattle.sm_tree.specs.Node.{Node, Members, null, bool, int, number, text, bytes, tag, opaque, list, object, no_members, member}
use Rattle.sm_tree.specs.Node.{members_of}
use Rattle.sm_tree.specs.Json.{AreJsonMembers}
use Rattle.sm_tree.specs.Parts.{tree_named}
use Rattle.sm_tree.specs.Same.{AreDistinct, HasName, IsNode}
use Rattle.sm_model.specs.Formed.{DifferInNames, StandsAmong}
use Rattle.sm_model.specs.PreludeShapes.{unit_id}
use Rattle.sm_model.specs.Properties.{TypeFields, needed_fields, property_forms}
use Rattle.sm_model.specs.declared.kind.Kind.{Kind}
use Rattle.sm_model.specs.declared.kind.Kind.TheVariants.{Blob, Boolean, Text, Enum, Byte, Short, Integer, IntEnum, Long, Float, Double}
use Rattle.sm_model.specs.declared.kind.Kind.TheVariants.{BigInteger, BigDecimal, Timestamp, Document, List as list_kind, Map, Structure}
use Rattle.sm_model.specs.declared.kind.Kind.TheVariants.{Union}
use Rattle.sm_model.specs.declared.kind.Kind.TheVariants.{Service, Operation, Resource}
use Rattle.sm_merge.specs.Stated.{body_of, field_stated, fields_stated, is_empty}
use Rattle.sm_merge.proofs.PreludeGiven.{api_shape_id, differ_by_test, none_some}

-- pairs of a name and a node
abbrev AreNodePairs : List (List ℕ × Node) → Type 0
AreNodePairs [] = Unit {0}
AreNodePairs (p ∷ ps) = IsUtf8 p.0 × IsNode p.1 × AreNodePairs ps

abbrev names_of : List (List ℕ × Node) → List (List ℕ)
names_of ps = map (λ p. p.0) ps

json_pairs : (ps : List (List ℕ × Node)) → AreNodePairs ps → AreJsonMembers (members_of ps)
json_pairs [] h = tt
json_pairs (p ∷ ps) h = (h.0, h.1.0, json_pairs ps h.2)

stands : (k : List ℕ) (ps : List (List ℕ × Node)) → HasName k (members_of ps) → StandsAmong k (names_of ps)
stands k [] h = h
stands k (p ∷ ps) (inl e) = inl e
stands k (p ∷ ps) (inr h) = inr (stands k ps h)

distinct_pairs : (ps : List (List ℕ × Node)) → DifferInNames (names_of ps) → AreNodePairs ps → AreDistinct (members_of ps)
distinct_pairs [] d h = tt
distinct_pairs (p ∷ ps) d h = ((λ named. d.0 (stands p.0 ps named)), h.1.1, distinct_pairs ps d.1 h.2)

joined : (xs ys : List (List ℕ × Node)) → AreNodePairs xs → AreNodePairs ys → AreNodePairs (xs ++ ys)
joined [] ys h k = k
joined (x ∷ xs) ys h k = (h.0, h.1, joined xs ys h.2 k)

-- what stands under a name of a node is a node
named_node : (name : List ℕ) (ms : Members) → AreJsonMembers ms → AreDistinct ms → (n : Node) → tree_named name ms ≡ Some n → IsNode n
named_node name no_members json names n e = none_some n e
named_node name (member k m ms) json names n e = by_test (λ rest. named_node name ms json.2 names.2 n rest) (bytes_eq k name) e
  where
    by_test : (tree_named name ms ≡ Some n → IsNode n) → (b : Bool) → (if b then Some m else tree_named name ms) ≡ Some n → IsNode n
    by_test later true e = subst IsNode (ap (λ o. unwrap_or o m) e) (json.1, names.1)
    by_test later false e = later e

-- a field is one pair of its name, or none
abbrev IsField : List ℕ → List (List ℕ × Node) → Type 0
IsField name xs = (xs ≡ []) ⊎ ((n : Node) × (xs ≡ (name, n) ∷ []))

field_is : (kind : Kind) (name : List ℕ) (o : Option Node) → IsField name (field_stated kind name o)
field_is kind name None = by_test (list_any (bytes_eq name) (needed_fields kind))
  where
    by_test : (b : Bool) → IsField name (if b then (name, text unit_id) ∷ [] else [])
    by_test true = inr (text unit_id, refl)
    by_test false = inl refl
field_is kind name (Some n) = by_test (is_empty n)
  where
    by_test : (b : Bool) → IsField name (if b then [] else (name, n) ∷ [])
    by_test true = inl refl
    by_test false = inr (n, refl)

unit_node : IsNode (text unit_id)
unit_node = let id = api_shape_id (codes "Unit") refl in (IsUtf8-from_ascii unit_id (id_ascii id.0 unit_id id.1), tt)

field_nodes : (kind : Kind) (name : List ℕ) (o : Option Node) → IsUtf8 name → ((n : Node) → o ≡ Some n → IsNode n)
    → AreNodePairs (field_stated kind name o)
field_nodes kind name None utf8 h = by_test (list_any (bytes_eq name) (needed_fields kind))
  where
    by_test : (b : Bool) → AreNodePairs (if b then (name, text unit_id) ∷ [] else [])
    by_test true = (utf8, unit_node, tt)
    by_test false = tt
field_nodes kind name (Some n) utf8 h = by_test (is_empty n)
  where
    by_test : (b : Bool) → AreNodePairs (if b then [] else (name, n) ∷ [])
    by_test true = tt
    by_test false = (utf8, h n refl, tt)

-- names of fields
abbrev AreNames : List (List ℕ) → Type 0
AreNames [] = Unit {0}
AreNames (k ∷ ks) = IsUtf8 k × AreNames ks

abbrev field_names : TypeFields → List (List ℕ)
field_names fs = map (λ f. f.0) fs

ascii_byte : (c : ℕ) → is_identifier_byte c ≡ true → c < 128
ascii_byte c h = grind (arith, nat_tests)

pub identifier_utf8 : (t : List ℕ) → IsIdentifier t → IsUtf8 t
identifier_utf8 t h =
    IsUtf8-from_ascii t (IsAscii-from_all t
    (λ k d lt. ascii_byte _ (AllPass-from_list_all is_identifier_byte t (made_of_bytes t h) k d lt)))

record AreFieldNames (fs : TypeFields) : Type 0 where
  utf8 : AreNames (field_names fs)
  differ : DifferInNames (field_names fs)

no_fields : AreFieldNames []
no_fields = record { utf8 = tt; differ = tt }

fields_are : (kind : Kind) → AreFieldNames (property_forms kind)
fields_are Operation = record {
  utf8 = (identifier_utf8 _ refl, (identifier_utf8 _ refl, (identifier_utf8 _ refl, tt)));
  differ = differ_by_test (field_names (property_forms Operation)) refl;
}
fields_are Service = record {
  utf8 = (
    identifier_utf8 _ refl,
    (identifier_utf8 _ refl, (identifier_utf8 _ refl, (identifier_utf8 _ refl, (identifier_utf8 _ refl, tt)))),
  );
  differ = differ_by_test (field_names (property_forms Service)) refl;
}
fields_are Resource = record {
  utf8 = (
    identifier_utf8 _ refl,
    (
      identifier_utf8 _ refl,
      (
        identifier_utf8 _ refl,
        (
          identifier_utf8 _ refl,
          (
            identifier_utf8 _ refl,
            (
              identifier_utf8 _ refl,
              (
                identifier_utf8 _ refl,
                (identifier_utf8 _ refl, (identifier_utf8 _ refl, (identifier_utf8 _ refl, (identifier_utf8 _ refl, tt)))),
              ),
            ),
          ),
        ),
      ),
    ),
  );
  differ = differ_by_test (field_names (property_forms Resource)) refl;
}
fields_are list_kind = no_fields
fields_are Map = no_fields
fields_are Structure = no_fields
fields_are Union = no_fields
fields_are Enum = no_fields
fields_are IntEnum = no_fields
fields_are Blob = no_fields
fields_are Boolean = no_fields
fields_are Text = no_fields
fields_are Byte = no_fields
fields_are Short = no_fields
fields_are Integer = no_fields
fields_are Long = no_fields
fields_are Float = no_fields
fields_are Double = no_fields
fields_are BigInteger = no_fields
fields_are BigDecimal = no_fields
fields_are Timestamp = no_fields
fields_are Document = no_fields

module _ (kind : Kind) (ms : Members) (json : AreJsonMembers ms) (names : AreDistinct ms) where
  nodes : (fs : TypeFields) → AreNames (field_names fs) → AreNodePairs (fields_stated kind fs ms)
  nodes [] h = tt
  nodes (f ∷ fs) h =
      joined (field_stated kind f.0 (tree_named f.0 ms)) (fields_stated kind fs ms)
      (field_nodes kind f.0 (tree_named f.0 ms) h.0 (named_node f.0 ms json names)) (nodes fs h.1)

  still : (k : List ℕ) (fs : TypeFields) → StandsAmong k (names_of (fields_stated kind fs ms)) → StandsAmong k (field_names fs)
  still k [] h = h
  still k (f ∷ fs) h =
      by_field (λ rest. still k fs rest) (field_stated kind f.0 (tree_named f.0 ms)) (field_is kind f.0 (tree_named f.0 ms)) h
    where
      first : (StandsAmong k (names_of (fields_stated kind fs ms)) → StandsAmong k (field_names fs))
          → (k ≡ f.0) ⊎ StandsAmong k (names_of (fields_stated kind fs ms)) → StandsAmong k (field_names (f ∷ fs))
      first later (inl e) = inl e
      first later (inr h) = inr (later h)

      by_field : (StandsAmong k (names_of (fields_stated kind fs ms)) → StandsAmong k (field_names fs)) → (xs : List (List ℕ × Node))
          → IsField f.0 xs → StandsAmong k (names_of (xs ++ fields_stated kind fs ms)) → StandsAmong k (field_names (f ∷ fs))
      by_field later xs (inl none) h =
          inr (later (subst (λ l. StandsAmong k (names_of (l ++ fields_stated kind fs ms))) none h))
      by_field later xs (inr (n, one)) h =
          first later (subst (λ l. StandsAmong k (names_of (l ++ fields_stated kind fs ms))) one h)

  differ : (fs : TypeFields) → DifferInNames (field_names fs) → DifferInNames (names_of (fields_stated kind fs ms))
  differ [] d = tt
  differ (f ∷ fs) d = by_field (differ fs d.1) (field_stated kind f.0 (tree_named f.0 ms)) (field_is kind f.0 (tree_named f.0 ms))
    where
      by_field : DifferInNames (names_of (fields_stated kind fs ms)) → (xs : List (List ℕ × Node)) → IsField f.0 xs
          → DifferInNames (names_of (xs ++ fields_stated kind fs ms))
      by_field rest xs (inl none) = subst (λ l. DifferInNames (names_of (l ++ fields_stated kind fs ms))) (sym none) rest
      by_field rest xs (inr (n, one)) =
          subst (λ l. DifferInNames (names_of (l ++ fields_stated kind fs ms))) (sym one)
          ((λ h. d.0 (still f.0 fs h)), rest)

  fields_node : IsNode (object (members_of (fields_stated kind (property_forms kind) ms)))
  fields_node =
      let are = fields_are kind in
      let each = nodes (property_forms kind) are.utf8 in (
        json_pairs (fields_stated kind (property_forms kind) ms) each,
        distinct_pairs (fields_stated kind (property_forms kind) ms) (differ (property_forms kind) are.differ) each,
      )

pub body_node : (kind : Kind) (n : Node) → IsNode n → IsNode (body_of kind n)
body_node kind (object ms) h = fields_node kind ms h.0 h.1
body_node kind null h = fields_node kind no_members tt tt
body_node kind (bool b) h = fields_node kind no_members tt tt
body_node kind (int z) h = fields_node kind no_members tt tt
body_node kind (number t) h = fields_node kind no_members tt tt
body_node kind (text t) h = fields_node kind no_members tt tt
body_node kind (bytes t) h = fields_node kind no_members tt tt
body_node kind (tag k n) h = fields_node kind no_members tt tt
body_node kind (opaque b) h = fields_node kind no_members tt tt
body_node kind (list ns) h = fields_node kind no_members tt tt

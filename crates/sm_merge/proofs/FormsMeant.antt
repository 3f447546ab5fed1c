-- The fields of a body have the forms of its type, and those that the type needs are there.
use Rattle.std.proofs.Common.{◌≡◌, inl, inr, ℕ, Bool, true, false, List, [], ◌∷◌, ◌++◌, Option, Some, None, refl, sym, ap, subst, ◌∙◌}
use Rattle.std.proofs.Common.{bytes_eq}
use Rattle.std.specs.Prelude.{◌||◌, codes, if◌then◌else◌}
use Rattle.std.specs.List.{list_any}
use Rattle.std.specs.Option.{unwrap_or}
use Rattle.std.proofs.lemmas.Bool.{or_cases, true≢false}
use Rattle.std.proofs.lemmas.Slice.Eq.{bytes_eq-Decides}
use Rattle.sm_ids.specs.Identifier.{IsIdentifier}
use Rattle.sm_tree.specs.Node.{Node, Members, text, object, members_of}
use Rattle.sm_tree.specs.Parts.{tree_named}
use Rattle.sm_tree.specs.Same.{HasName}
use Rattle.sm_model.specs.Formed.{AreFields, AreNamedReferences, AreNewNames, AreProperties, AreRawReferences, HasPropertyForm}
use Rattle.sm_model.specs.Formed.{IsNewName, IsRaw, IsRawReference}
use Rattle.sm_model.specs.Given.{AreIdNodes, AreNamedIds, AreNodeFields, AreRenamed, HasNeeded, HasShapeBody, IsIdNode, NodeHasForm}
use Rattle.sm_model.specs.PreludeShapes.{unit_id}
use Rattle.sm_model.specs.Properties.{TypeFields, form_named, needed_fields, operation_fields, property_forms}
use Rattle.sm_model.specs.Raw.{Raw, Raws, RawMembers, raw_leaf, raw_id, raw_list, raw_object, no_raws, raw, no_raw_members, raw_member}
use Rattle.sm_model.specs.declared.kind.Kind.{Kind}
use Rattle.sm_model.specs.declared.kind.Kind.TheVariants.{Blob, Boolean, Text as text_kind, Enum, Byte, Short, Integer, IntEnum, Long}
use Rattle.sm_model.specs.declared.kind.Kind.TheVariants.{Float}
use Rattle.sm_model.specs.declared.kind.Kind.TheVariants.{Double, BigInteger, BigDecimal, Timestamp, Document, List as list_kind, Map}
use Rattle.sm_model.specs.declared.kind.Kind.TheVariants.{Structure, Union, Service, Operation, Resource}
use Rattle.sm_model.specs.declared.property.PropertyForm.{PropertyForm}
use Rattle.sm_model.specs.declared.property.PropertyForm.TheVariants.{Reference, References, NamedReferences, Text, Rename}
use Rattle.sm_merge.specs.Meaning.{Defined, meaning, members_meant, node_meant, nodes_meant}
use Rattle.sm_merge.specs.Stated.{body_of, field_stated, fields_stated, is_empty}
use Rattle.sm_merge.proofs.BodyNodes.{body_node}
use Rattle.sm_merge.proofs.MeantIds.{meaning_is_id}
use Rattle.sm_merge.proofs.NodesMeant.{meant_is_node}
use Rattle.sm_merge.proofs.PreludeGiven.{api_shape_id, none_some}

module _ (defined : Defined) where
  id_node : (n : Raw) → IsRawReference n → IsIdNode (node_meant defined n)
  id_node (raw_id r) h = (meaning defined r, refl, meaning_is_id defined r h)
  id_node (raw_leaf n) h = absurd h
  id_node (raw_list ns) h = absurd h
  id_node (raw_object ms) h = absurd h

  id_nodes : (ns : Raws) → AreRawReferences ns → AreIdNodes (nodes_meant defined ns)
  id_nodes no_raws h = tt
  id_nodes (raw n ns) h = (id_node n h.0, id_nodes ns h.1)

  named_ids : (ms : RawMembers) → AreNamedReferences ms → AreNamedIds (members_meant defined ms)
  named_ids no_raw_members h = tt
  named_ids (raw_member k n ms) h = (id_node n h.0, named_ids ms h.1)

  new_name : (n : Raw) → IsNewName n → (t : List ℕ) × (node_meant defined n ≡ text t) × IsIdentifier t
  new_name (raw_leaf n) h = h
  new_name (raw_id r) h = absurd h
  new_name (raw_list ns) h = absurd h
  new_name (raw_object ms) h = absurd h

  renamed : (ms : RawMembers) → AreNewNames ms → AreRenamed (members_meant defined ms)
  renamed no_raw_members h = tt
  renamed (raw_member k n ms) h = (h.0, new_name n h.1, renamed ms h.2)

  text_node : (n : Raw) → HasPropertyForm Text n → NodeHasForm Text (node_meant defined n)
  text_node (raw_leaf n) h = h
  text_node (raw_id r) h = (meaning defined r, refl)
  text_node (raw_list ns) h = absurd h
  text_node (raw_object ms) h = absurd h

  form_meant : (form : PropertyForm) (n : Raw) → HasPropertyForm form n → NodeHasForm form (node_meant defined n)
  form_meant Reference n h = id_node n h
  form_meant References n (ns, is, each) = (nodes_meant defined ns, ap (node_meant defined) is, id_nodes ns each)
  form_meant NamedReferences n (ms, is, each) = (members_meant defined ms, ap (node_meant defined) is, named_ids ms each)
  form_meant Text n h = text_node n h
  form_meant Rename n (ms, is, each) = (members_meant defined ms, ap (node_meant defined) is, renamed ms each)

  -- what stands under a name has the form of the name
  abbrev HasNamedForm : TypeFields → List ℕ → Node → Type 0
  HasNamedForm fs name n = (form : PropertyForm) × (form_named name fs ≡ Some form) × NodeHasForm form n

  named_form : (fs : TypeFields) (ms : RawMembers) → AreFields fs ms → (name : List ℕ) (n : Node)
      → tree_named name (members_meant defined ms) ≡ Some n → HasNamedForm fs name n
  named_form fs no_raw_members h name n e = none_some n e
  named_form fs (raw_member k m ms) h name n e = by_test (λ rest. named_form fs ms h.1 name n rest) (bytes_eq k name) refl e
    where
      by_test : (tree_named name (members_meant defined ms) ≡ Some n → HasNamedForm fs name n) → (b : Bool) → bytes_eq k name ≡ b
          → (if b then Some (node_meant defined m) else tree_named name (members_meant defined ms)) ≡ Some n → HasNamedForm fs name n
      by_test later true same e =
          subst (HasNamedForm fs name) (ap (λ o. unwrap_or o n) e)
          (h.0.0, subst (λ key. form_named key fs ≡ Some h.0.0) ((bytes_eq-Decides k name).0 same) h.0.1, form_meant h.0.0 m h.0.2)
      by_test later false same e = later e

-- fields one after the other
fields_joined : (fs : TypeFields) (xs ys : List (List ℕ × Node)) → AreNodeFields fs (members_of xs) → AreNodeFields fs (members_of ys)
    → AreNodeFields fs (members_of (xs ++ ys))
fields_joined fs [] ys h k = k
fields_joined fs (x ∷ xs) ys h k = (h.0, fields_joined fs xs ys h.1 k)

abbrev HasForm : TypeFields → List ℕ → Node → Type 0
HasForm fs name n = (form : PropertyForm) × (form_named name fs ≡ Some form) × NodeHasForm form n

unit_is_id : IsIdNode (text unit_id)
unit_is_id = let id = api_shape_id (codes "Unit") refl in (unit_id, refl, (id.0, id.1))

-- a field that a type needs has a reference
no_need : {A : Type 0} → false ≡ true → A
no_need h = absurd (true≢false (sym h))

input_or_output : (name : List ℕ) → list_any (bytes_eq name) (needed_fields Operation) ≡ true
    → HasForm (property_forms Operation) name (text unit_id)
input_or_output name h = elim (or_cases (bytes_eq name (codes "input")) (bytes_eq name (codes "output") || false) h) [
  | inl same ↦
      subst (λ key. HasForm (property_forms Operation) key (text unit_id)) (sym ((bytes_eq-Decides name (codes "input")).0 same))
      (Reference, refl, unit_is_id)
  | inr more ↦ elim (or_cases (bytes_eq name (codes "output")) false more) [
    | inl same ↦
        subst (λ key. HasForm (property_forms Operation) key (text unit_id)) (sym ((bytes_eq-Decides name (codes "output")).0 same))
        (Reference, refl, unit_is_id)
    | inr never ↦ no_need never
  ]
]

needed_unit : (kind : Kind) (name : List ℕ) → list_any (bytes_eq name) (needed_fields kind) ≡ true
    → HasForm (property_forms kind) name (text unit_id)
needed_unit Operation name h = input_or_output name h
needed_unit Service name h = no_need h
needed_unit Resource name h = no_need h
needed_unit list_kind name h = no_need h
needed_unit Map name h = no_need h
needed_unit Structure name h = no_need h
needed_unit Union name h = no_need h
needed_unit Enum name h = no_need h
needed_unit IntEnum name h = no_need h
needed_unit Blob name h = no_need h
needed_unit Boolean name h = no_need h
needed_unit text_kind name h = no_need h
needed_unit Byte name h = no_need h
needed_unit Short name h = no_need h
needed_unit Integer name h = no_need h
needed_unit Long name h = no_need h
needed_unit Float name h = no_need h
needed_unit Double name h = no_need h
needed_unit BigInteger name h = no_need h
needed_unit BigDecimal name h = no_need h
needed_unit Timestamp name h = no_need h
needed_unit Document name h = no_need h

field_form : (kind : Kind) (name : List ℕ) (o : Option Node) → ((n : Node) → o ≡ Some n → HasForm (property_forms kind) name n)
    → AreNodeFields (property_forms kind) (members_of (field_stated kind name o))
field_form kind name None h = by_test (list_any (bytes_eq name) (needed_fields kind)) refl
  where
    by_test : (b : Bool) → list_any (bytes_eq name) (needed_fields kind) ≡ b
        → AreNodeFields (property_forms kind) (members_of (if b then (name, text unit_id) ∷ [] else []))
    by_test true needed = (needed_unit kind name needed, tt)
    by_test false needed = tt
field_form kind name (Some n) h = by_test (is_empty n)
  where
    by_test : (b : Bool) → AreNodeFields (property_forms kind) (members_of (if b then [] else (name, n) ∷ []))
    by_test true = tt
    by_test false = (h n refl, tt)

fields_form : (kind : Kind) (ms : Members) → ((name : List ℕ) (n : Node) → tree_named name ms ≡ Some n
    → HasForm (property_forms kind) name n)
    → (fs : TypeFields) → AreNodeFields (property_forms kind) (members_of (fields_stated kind fs ms))
fields_form kind ms h [] = tt
fields_form kind ms h (f ∷ fs) =
    fields_joined (property_forms kind) (field_stated kind f.0 (tree_named f.0 ms)) (fields_stated kind fs ms)
    (field_form kind f.0 (tree_named f.0 ms) (h f.0)) (fields_form kind ms h fs)

-- an operation has its input and its output
named_first : (k : List ℕ) (xs ys : List (List ℕ × Node)) → HasName k (members_of xs) → HasName k (members_of (xs ++ ys))
named_first k [] ys h = absurd h
named_first k (x ∷ xs) ys (inl same) = inl same
named_first k (x ∷ xs) ys (inr h) = inr (named_first k xs ys h)

named_second : (k : List ℕ) (xs ys : List (List ℕ × Node)) → HasName k (members_of ys) → HasName k (members_of (xs ++ ys))
named_second k [] ys h = h
named_second k (x ∷ xs) ys h = inr (named_second k xs ys h)

reference_filled : (n : Node) → IsIdNode n → is_empty n ≡ false
reference_filled n (t, is, id) = ap is_empty is

same_some : {X : Type 0} (x y : X) → Some x ≡ Some y → x ≡ y
same_some x y e = ap (λ o. unwrap_or o x) e

filled_reference : (name : List ℕ) → form_named name operation_fields ≡ Some Reference → (n : Node) → HasForm operation_fields name n
    → is_empty n ≡ false
filled_reference name is n (form, at, has) =
    reference_filled n (subst (λ f. NodeHasForm f n) (same_some form Reference (sym at ∙ is)) has)

needed_there : (name : List ℕ) → list_any (bytes_eq name) (needed_fields Operation) ≡ true
    → form_named name operation_fields ≡ Some Reference → (o : Option Node) → ((n : Node) → o ≡ Some n → HasForm operation_fields name n)
    → HasName name (members_of (field_stated Operation name o))
needed_there name needed is None h =
    subst (λ b. HasName name (members_of (if b then (name, text unit_id) ∷ [] else []))) (sym needed) (inl refl)
needed_there name needed is (Some n) h =
    subst (λ b. HasName name (members_of (if b then [] else (name, n) ∷ []))) (sym (filled_reference name is n (h n refl))) (inl refl)

module _ (ms : Members) (h : (name : List ℕ) (n : Node) → tree_named name ms ≡ Some n → HasForm operation_fields name n) where
  abbrev part : List ℕ → List (List ℕ × Node)
  part name = field_stated Operation name (tree_named name ms)

  input_there : HasName (codes "input") (members_of (fields_stated Operation operation_fields ms))
  input_there =
      named_first (codes "input") (part (codes "input")) (part (codes "output") ++ (part (codes "errors") ++ []))
      (needed_there (codes "input") refl refl (tree_named (codes "input") ms) (h (codes "input")))

  output_there : HasName (codes "output") (members_of (fields_stated Operation operation_fields ms))
  output_there =
      named_second (codes "output") (part (codes "input")) (part (codes "output") ++ (part (codes "errors") ++ []))
      (named_first (codes "output") (part (codes "output")) (part (codes "errors") ++ [])
      (needed_there (codes "output") refl refl (tree_named (codes "output") ms) (h (codes "output"))))

needs_met : (kind : Kind) (ms : Members)
    → ((name : List ℕ) (n : Node) → tree_named name ms ≡ Some n → HasForm (property_forms kind) name n)
    → HasNeeded kind (members_of (fields_stated kind (property_forms kind) ms))
needs_met Operation ms h = (input_there ms h, output_there ms h)
needs_met Service ms h = tt
needs_met Resource ms h = tt
needs_met list_kind ms h = tt
needs_met Map ms h = tt
needs_met Structure ms h = tt
needs_met Union ms h = tt
needs_met Enum ms h = tt
needs_met IntEnum ms h = tt
needs_met Blob ms h = tt
needs_met Boolean ms h = tt
needs_met text_kind ms h = tt
needs_met Byte ms h = tt
needs_met Short ms h = tt
needs_met Integer ms h = tt
needs_met Long ms h = tt
needs_met Float ms h = tt
needs_met Double ms h = tt
needs_met BigInteger ms h = tt
needs_met BigDecimal ms h = tt
needs_met Timestamp ms h = tt
needs_met Document ms h = tt

-- the body that a statement comes to is one that a graph may have
pub body_is : (defined : Defined) (kind : Kind) (n : Raw) → AreProperties (property_forms kind) n
    → HasShapeBody kind (body_of kind (node_meant defined n))
body_is defined kind n p = subst (λ m. HasShapeBody kind (body_of kind (node_meant defined m))) (sym p.is_object) (record {
  pairs = members_of (fields_stated kind (property_forms kind) (members_meant defined p.pairs));
  is_object = refl;
  is_node = body_node kind (object (members_meant defined p.pairs)) (meant_is_node defined (raw_object p.pairs)
      (subst IsRaw p.is_object p.is_raw));
  fields = fields_form kind (members_meant defined p.pairs) (named_form defined (property_forms kind) p.pairs p.fields)
      (property_forms kind);
  needed = needs_met kind (members_meant defined p.pairs) (named_form defined (property_forms kind) p.pairs p.fields);
})

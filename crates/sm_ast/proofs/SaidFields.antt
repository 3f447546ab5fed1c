-- Fields of operations, services and resources without a fault say what is read of them; and which field a name is.
use Rattle.std.proofs.Common.{◌≡◌, ℕ, ◌+◌, inl, inr, ◌⊎◌, Bool, true, false, List, [], ◌∷◌, ◌++◌, Option, Some, None, refl, sym, ap}
use Rattle.std.proofs.Common.{subst, ◌∙◌, if◌then◌else◌, bytes_eq, nat_eq, ◌||◌}
use Rattle.std.specs.List.{list_any}
use Rattle.std.specs.Cmp.Lexicographic.{pointwise}
use Rattle.sm_tree.specs.Node.{Node, Nodes, Members, text, no_nodes, node, no_members, member}
use Rattle.sm_model.specs.Properties.{TypeFields, form_named, property_forms}
use Rattle.sm_model.specs.Raw.{raw_leaf, raw_id, raws_of, raw_member, raw_members_of}
use Rattle.sm_model.specs.declared.property.PropertyForm.{PropertyForm}
use Rattle.sm_model.specs.declared.property.PropertyForm.TheVariants.{Reference, References, NamedReferences, Text, Rename}
use Rattle.sm_model.specs.declared.kind.Kind.{Kind}
use Rattle.sm_model.specs.declared.kind.Kind.TheVariants.{Blob, Boolean, Text as text_kind, Enum, Byte, Short, Integer, IntEnum, Long}
use Rattle.sm_model.specs.declared.kind.Kind.TheVariants.{Float, Double, BigInteger}
use Rattle.sm_model.specs.declared.kind.Kind.TheVariants.{BigDecimal, Timestamp, Document, List as list_kind, Map, Structure, Union}
use Rattle.sm_model.specs.declared.kind.Kind.TheVariants.{Service, Operation, Resource}
use Rattle.sm_ast.specs.declared.layout.ShapeType.{ShapeType}
use Rattle.sm_ast.specs.declared.layout.ShapeType.TheVariants.{Defined, Applied}
use Rattle.sm_ast.specs.declared.layout.FieldForm.{FieldForm}
use Rattle.sm_ast.specs.declared.layout.FieldForm.TheVariants.{TypeName, OneMember, AllMembers, Property, Mixins, Traits}
use Rattle.sm_ast.specs.Ids.{is_id}
use Rattle.sm_ast.specs.Layout.{FieldForms, field_named, layout_of, shape_fields, type_name, traits_name, mixins_name}
use Rattle.sm_ast.specs.Ast.{RawReferencesSay, NamedReferencesSay, NewNamesSay, PropertySays, PropertyPairsSay}
use Rattle.sm_ast.specs.Faults.{AstFault, bad_id, unless, identifier_fault, pairs_fault, entries_fault, reference_fault, new_name_fault}
use Rattle.sm_ast.specs.Faults.{property_fault}
use Rattle.sm_ast.specs.PartsSaid.{text_said}
use Rattle.sm_ast.specs.steps.Saying.{reference_said, reference_entries, reference_pairs, text_pairs, property_said}
use Rattle.sm_ast.specs.steps.Saying.{with_property, property_pairs}
use Rattle.sm_ast.proofs.IdTests.{passed_is_id}
use Rattle.sm_ast.proofs.Judged.{either_way, or_left, true_is_false, same_text, some_is_none, some_same, none_first, none_unless}
use Rattle.sm_ast.proofs.Judged.{none_of_pairs, none_of_entries}
use Rattle.sm_ast.proofs.SaidReferences.{by_text, by_list, by_object, identifier_said, reference_holds}

raw_references_hold : (at : ℕ) (ns : Nodes) → entries_fault reference_fault at ns ≡ None
    → RawReferencesSay ns (raws_of (reference_entries ns))
raw_references_hold at no_nodes e = refl
raw_references_hold at (node n ns) e =
    let parts = none_of_entries reference_fault at n ns e in (
      raw_id (reference_said n),
      raws_of (reference_entries ns),
      refl,
      (reference_said n, reference_holds n parts.0, refl),
      raw_references_hold (at + 1) ns parts.1,
    )

named_references_hold : (before : List (List ℕ)) (ms : Members) → pairs_fault (λ k m. reference_fault m) before ms ≡ None
    → NamedReferencesSay ms (raw_members_of (reference_pairs ms))
named_references_hold before no_members e = refl
named_references_hold before (member k n ms) e =
    let parts = none_of_pairs (λ j m. reference_fault m) before k n ms e in (
      raw_id (reference_said n),
      raw_members_of (reference_pairs ms),
      refl,
      (reference_said n, reference_holds n parts.1, refl),
      named_references_hold (before ++ k ∷ []) ms parts.2,
    )

new_names_hold : (before : List (List ℕ)) (ms : Members) → pairs_fault new_name_fault before ms ≡ None
    → NewNamesSay ms (raw_members_of (text_pairs ms))
new_names_hold before no_members e = refl
new_names_hold before (member k n ms) e =
    let parts = none_of_pairs new_name_fault before k n ms e in
    let pair = none_first (unless (is_id k) (bad_id [])) (identifier_fault n) parts.1 in
    let said = identifier_said n pair.1 in (
      said.0,
      raw_members_of (text_pairs ms),
      passed_is_id k (none_unless (is_id k) (bad_id []) pair.0),
      said.1,
      said.2,
      ap (λ m. raw_member k (raw_leaf (text (text_said m))) (raw_members_of (text_pairs ms))) said.1,
      new_names_hold (before ++ k ∷ []) ms parts.2,
    )

pub property_holds : (form : PropertyForm) (n : Node) → property_fault form n ≡ None → PropertySays form n (property_said form n)
property_holds Reference n e = (reference_said n, reference_holds n e, refl)
property_holds References n e = by_list (λ m. PropertySays References m (property_said References m)) (entries_fault reference_fault 0) n e
    (λ ns f. (ns, raws_of (reference_entries ns), refl, refl, raw_references_hold 0 ns f))
property_holds NamedReferences n e =
    by_object (λ m. PropertySays NamedReferences m (property_said NamedReferences m)) (pairs_fault (λ k m. reference_fault m) []) n e
    (λ ms f. (ms, raw_members_of (reference_pairs ms), refl, refl, named_references_hold [] ms f))
property_holds Text n e = by_text (λ m. PropertySays Text m (property_said Text m)) (λ t. None) n e (λ t f. (t, refl, refl))
property_holds Rename n e = by_object (λ m. PropertySays Rename m (property_said Rename m)) (pairs_fault new_name_fault []) n e
    (λ ms f. (ms, raw_members_of (text_pairs ms), refl, refl, new_names_hold [] ms f))

-- of all pairs those that are such fields, where the judge of pairs judges these by their form
property_pair : (fs : TypeFields) (k : List ℕ) (n : Node) (ms : Members)
    → ((form : PropertyForm) → form_named k fs ≡ Some form → property_fault form n ≡ None)
    → PropertyPairsSay fs ms (raw_members_of (property_pairs fs ms)) → (o : Option PropertyForm) → form_named k fs ≡ o
    → PropertyPairsSay fs (member k n ms) (raw_members_of (with_property o k n (property_pairs fs ms)))
property_pair fs k n ms fits rest None is = inl (is, rest)
property_pair fs k n ms fits rest (Some form) is =
    inr (form, property_said form n, raw_members_of (property_pairs fs ms), is, property_holds form n (fits form is), refl, rest)

pub property_pairs_hold : (fs : TypeFields) (judge : List ℕ → Node → Option AstFault)
    → ((k : List ℕ) (n : Node) (form : PropertyForm) → form_named k fs ≡ Some form → judge k n ≡ None → property_fault form n ≡ None)
    → (before : List (List ℕ)) (ms : Members) → pairs_fault judge before ms ≡ None
    → PropertyPairsSay fs ms (raw_members_of (property_pairs fs ms))
property_pairs_hold fs judge fits before no_members e = refl
property_pairs_hold fs judge fits before (member k n ms) e =
    let parts = none_of_pairs judge before k n ms e in
    property_pair fs k n ms (λ form is. fits k n form is parts.1) (property_pairs_hold fs judge fits (before ++ k ∷ []) ms parts.2)
    (form_named k fs) refl

-- what holds of each field of a type holds of one that is found
abbrev pub AllForms : (List ℕ → PropertyForm → Type 0) → TypeFields → Type 0
AllForms P [] = Unit {0}
AllForms P (f ∷ fs) = P f.0 f.1 × AllForms P fs

pub form_found : (P : List ℕ → PropertyForm → Type 0) (fs : TypeFields) → AllForms P fs → (k : List ℕ) (form : PropertyForm)
    → form_named k fs ≡ Some form → P k form
form_found P [] all k form e = some_is_none form (sym e)
form_found P (f ∷ fs) all k form e = elim (either_way (pointwise nat_eq k f.0)) [
  | inl same ↦ subst (P k) (some_same f.1 form (ap (λ b. if b then Some f.1 else form_named k fs) (sym same) ∙ e))
      (subst (λ j. P j f.1) (sym (same_text k f.0 same)) all.0)
  | inr other ↦ form_found P fs all.1 k form (ap (λ b. if b then Some f.1 else form_named k fs) (sym other) ∙ e)
]

-- such a field is one of the layout
pub property_field : (kind : Kind) (k : List ℕ) (form : PropertyForm) → form_named k (property_forms kind) ≡ Some form
    → field_named k (layout_of (Defined kind)) ≡ Some (Property form)
property_field kind k form e = form_found (λ j f. field_named j (layout_of (Defined kind)) ≡ Some (Property f)) (property_forms kind)
    (all_forms kind) k form e
  where
    all_forms : (kind : Kind) → AllForms (λ j f. field_named j (layout_of (Defined kind)) ≡ Some (Property f)) (property_forms kind)
    all_forms Operation = (refl, (refl, (refl, tt)))
    all_forms Service = (refl, (refl, (refl, (refl, (refl, tt)))))
    all_forms Resource = (refl, (refl, (refl, (refl, (refl, (refl, (refl, (refl, (refl, (refl, (refl, tt)))))))))))
    all_forms Blob = tt
    all_forms Boolean = tt
    all_forms text_kind = tt
    all_forms Enum = tt
    all_forms Byte = tt
    all_forms Short = tt
    all_forms Integer = tt
    all_forms IntEnum = tt
    all_forms Long = tt
    all_forms Float = tt
    all_forms Double = tt
    all_forms BigInteger = tt
    all_forms BigDecimal = tt
    all_forms Timestamp = tt
    all_forms Document = tt
    all_forms list_kind = tt
    all_forms Map = tt
    all_forms Structure = tt
    all_forms Union = tt

-- every shape may have traits, and mixins where the layout has them
pub traits_field : (kind : Kind) → field_named traits_name (layout_of (Defined kind)) ≡ Some Traits
traits_field Blob = refl
traits_field Boolean = refl
traits_field text_kind = refl
traits_field Enum = refl
traits_field Byte = refl
traits_field Short = refl
traits_field Integer = refl
traits_field IntEnum = refl
traits_field Long = refl
traits_field Float = refl
traits_field Double = refl
traits_field BigInteger = refl
traits_field BigDecimal = refl
traits_field Timestamp = refl
traits_field Document = refl
traits_field list_kind = refl
traits_field Map = refl
traits_field Structure = refl
traits_field Union = refl
traits_field Service = refl
traits_field Operation = refl
traits_field Resource = refl

pub mixins_field : (kind : Kind) → (field_named mixins_name (layout_of (Defined kind)) ≡ Some Mixins) ⊎
    (field_named mixins_name (layout_of (Defined kind)) ≡ None)
mixins_field Blob = inl refl
mixins_field Boolean = inl refl
mixins_field text_kind = inl refl
mixins_field Enum = inl refl
mixins_field Byte = inl refl
mixins_field Short = inl refl
mixins_field Integer = inl refl
mixins_field IntEnum = inl refl
mixins_field Long = inl refl
mixins_field Float = inl refl
mixins_field Double = inl refl
mixins_field BigInteger = inl refl
mixins_field BigDecimal = inl refl
mixins_field Timestamp = inl refl
mixins_field Document = inl refl
mixins_field list_kind = inl refl
mixins_field Map = inl refl
mixins_field Structure = inl refl
mixins_field Union = inl refl
mixins_field Service = inr refl
mixins_field Operation = inr refl
mixins_field Resource = inr refl

-- and the value of `type` stands under that name alone
abbrev is_type : FieldForm → Bool
is_type TypeName = true
is_type OneMember = false
is_type AllMembers = false
is_type (Property form) = false
is_type Mixins = false
is_type Traits = false

no_type : (k : List ℕ) (fs : FieldForms) → list_any (λ f. is_type f.1) fs ≡ false → field_named k fs ≡ Some TypeName → ⊥
no_type k [] others e = some_is_none TypeName (sym e)
no_type k (f ∷ fs) others e = elim (either_way (bytes_eq k f.0)) [
  | inl same ↦ true_is_false (sym (or_left (is_type f.1) (list_any (λ g. is_type g.1) fs)
      (ap is_type (some_same f.1 TypeName (ap (λ b. if b then Some f.1 else field_named k fs) (sym same) ∙ e)))) ∙ others)
  | inr other ↦ no_type k fs (neither (is_type f.1) _ others) (ap (λ b. if b then Some f.1 else field_named k fs) (sym other) ∙ e)
]
  where
    neither : (a b : Bool) → (a || b) ≡ false → b ≡ false
    neither true b e = true_is_false e
    neither false b e = e

others_of : (kind : Kind) → list_any (λ f. is_type f.1) (shape_fields kind) ≡ false
others_of Blob = refl
others_of Boolean = refl
others_of text_kind = refl
others_of Enum = refl
others_of Byte = refl
others_of Short = refl
others_of Integer = refl
others_of IntEnum = refl
others_of Long = refl
others_of Float = refl
others_of Double = refl
others_of BigInteger = refl
others_of BigDecimal = refl
others_of Timestamp = refl
others_of Document = refl
others_of list_kind = refl
others_of Map = refl
others_of Structure = refl
others_of Union = refl
others_of Service = refl
others_of Operation = refl
others_of Resource = refl

pub only_type : (k : List ℕ) (type : ShapeType) → bytes_eq k type_name ≡ false → field_named k (layout_of type) ≡ Some TypeName → ⊥
only_type k (Defined kind) other e = no_type k (shape_fields kind) (others_of kind)
    (ap (λ b. if b then Some TypeName else field_named k (shape_fields kind)) (sym other) ∙ e)
only_type k Applied other e = no_type k ((traits_name, Traits) ∷ []) refl
    (ap (λ b. if b then Some TypeName else field_named k ((traits_name, Traits) ∷ [])) (sym other) ∙ e)

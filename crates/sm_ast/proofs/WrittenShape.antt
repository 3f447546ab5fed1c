-- What is written for a shape says it.
use Rattle.std.proofs.Common.{◌≡◌, inl, inr, ℕ, not, ◌&&◌, Bool, true, false, List, [], ◌∷◌, ◌++◌, Option, Some, None, refl, sym, ap}
use Rattle.std.proofs.Common.{subst, ◌∙◌, append_assoc, is_some}
use Rattle.std.specs.List.{list_all}
use Rattle.sm_tree.specs.Node.{Members, text, members_of}
use Rattle.sm_tree.specs.Same.{HasName, HasDistinctNames, AreDistinct}
use Rattle.sm_model.specs.Formed.{StandsAmong, HaveForm}
use Rattle.sm_model.specs.Given.{AreNodeFields, are_under}
use Rattle.sm_model.specs.Kinds.{member_form, kind_name}
use Rattle.sm_model.specs.Properties.{TypeFields, form_named, property_forms}
use Rattle.sm_model.specs.Raw.{raw_object, raw_members_of}
use Rattle.sm_model.specs.References.{IsShapeId}
use Rattle.sm_model.specs.Said.{ShapeSaid, shape_said}
use Rattle.sm_model.specs.declared.kind.Kind.{Kind}
use Rattle.sm_model.specs.declared.kind.Kind.TheVariants.{Blob, Boolean, Text as text_kind, Enum, Byte, Short, Integer, IntEnum, Long}
use Rattle.sm_model.specs.declared.kind.Kind.TheVariants.{Float, Double, BigInteger}
use Rattle.sm_model.specs.declared.kind.Kind.TheVariants.{BigDecimal, Timestamp, Document, List as list_kind, Map, Structure, Union}
use Rattle.sm_model.specs.declared.kind.Kind.TheVariants.{Service, Operation, Resource}
use Rattle.sm_model.specs.declared.property.PropertyForm.{PropertyForm}
use Rattle.sm_ast.specs.declared.layout.ShapeType.TheVariants.{Defined}
use Rattle.sm_ast.specs.declared.layout.FieldForm.{FieldForm}
use Rattle.sm_ast.specs.Layout.{FieldForms, field_named, layout_of, mixins_name, traits_name, type_name}
use Rattle.sm_ast.specs.Ast.{AreFieldsOf, PropertyPairsSay, ShapeParts, AstShape}
use Rattle.sm_ast.specs.Faults.{stands_in}
use Rattle.sm_ast.specs.GraphSaid.{body_said, traits_of_pairs}
use Rattle.sm_ast.specs.Written.{WrittenPairs, shape_object, written_in_form, written_properties, written_traits}
use Rattle.sm_ast.proofs.Judged.{both_true, true_is_false}
use Rattle.sm_model.proofs.FieldsAmong.{fields_among}
use Rattle.sm_ast.proofs.WrittenFields.{AreUnnamed, all_passed_over, fields_distinct, fields_say, passed_over}
use Rattle.sm_ast.proofs.WrittenMembers.{AreFoundMembers, AreSoundTraits, FoundMember, form_distinct, form_names, form_says, form_under}
use Rattle.sm_ast.proofs.WrittenMembers.{found_names, found_pairs, found_said, traits_behind, written_traits_distinct}
use Rattle.sm_ast.proofs.WrittenNames.{PairsWithin, all_differ, apart_by_test, differ_by_test, differ_within, distinct_joined}
use Rattle.sm_ast.proofs.WrittenNames.{distinct_pairs, field_names, has_under, pair_before, pair_behind, pairs_joined}
use Rattle.sm_ast.proofs.WrittenNames.{not_true, properties_within, within_itself, within_stands}

-- the names of a shape's pairs, and those before its traits
abbrev names_before : Kind → List (List ℕ)
names_before kind = (type_name ∷ []) ++ form_names (member_form kind) ++ field_names (property_forms kind)

abbrev shape_names : Kind → List (List ℕ)
shape_names kind = names_before kind ++ traits_name ∷ []

-- what is asked of them: they differ, each is a field of the type, `mixins` is none, `traits` isn't among those before, and the
-- others are no fields of a body
abbrev are_known : FieldForms → List (List ℕ) → Bool
are_known fs names = list_all (λ k. is_some (field_named k fs)) names

abbrev are_unnamed : TypeFields → List (List ℕ) → Bool
are_unnamed fs names = list_all (λ k. not (is_some (form_named k fs))) names

abbrev are_apart : Kind → Bool
are_apart kind = not (stands_in mixins_name (shape_names kind)) && not (stands_in traits_name (names_before kind))

abbrev are_other : Kind → Bool
are_other kind =
    are_unnamed (property_forms kind) ((type_name ∷ []) ++ form_names (member_form kind))
    && are_unnamed (property_forms kind) (traits_name ∷ [])

abbrev names_fit : Kind → Bool
names_fit kind =
    (are_known (layout_of (Defined kind)) (shape_names kind) && all_differ (shape_names kind)) && (are_apart kind && are_other kind)

they_fit : (kind : Kind) → names_fit kind ≡ true
they_fit Operation = refl
they_fit Service = refl
they_fit Resource = refl
they_fit list_kind = refl
they_fit Map = refl
they_fit Structure = refl
they_fit Union = refl
they_fit Enum = refl
they_fit IntEnum = refl
they_fit Blob = refl
they_fit Boolean = refl
they_fit text_kind = refl
they_fit Byte = refl
they_fit Short = refl
they_fit Integer = refl
they_fit Long = refl
they_fit Float = refl
they_fit Double = refl
they_fit BigInteger = refl
they_fit BigDecimal = refl
they_fit Timestamp = refl
they_fit Document = refl

module _ (kind : Kind) where
  first_fit : (are_known (layout_of (Defined kind)) (shape_names kind) && all_differ (shape_names kind)) ≡ true
  first_fit = (both_true (are_known (layout_of (Defined kind)) (shape_names kind) && all_differ (shape_names kind))
      (are_apart kind && are_other kind) (they_fit kind)).0

  last_fit : (are_apart kind && are_other kind) ≡ true
  last_fit = (both_true (are_known (layout_of (Defined kind)) (shape_names kind) && all_differ (shape_names kind))
      (are_apart kind && are_other kind) (they_fit kind)).1

  names_are_known : are_known (layout_of (Defined kind)) (shape_names kind) ≡ true
  names_are_known = (both_true (are_known (layout_of (Defined kind)) (shape_names kind)) (all_differ (shape_names kind)) first_fit).0

  names_all_differ : all_differ (shape_names kind) ≡ true
  names_all_differ = (both_true (are_known (layout_of (Defined kind)) (shape_names kind)) (all_differ (shape_names kind)) first_fit).1

  names_apart : (not (stands_in mixins_name (shape_names kind)) ≡ true) × (not (stands_in traits_name (names_before kind)) ≡ true)
  names_apart =
      both_true (not (stands_in mixins_name (shape_names kind))) (not (stands_in traits_name (names_before kind)))
      (both_true (are_apart kind) (are_other kind) last_fit).0

  no_mixins : stands_in mixins_name (shape_names kind) ≡ false
  no_mixins = not_true (stands_in mixins_name (shape_names kind)) names_apart.0

  no_traits : stands_in traits_name (names_before kind) ≡ false
  no_traits = not_true (stands_in traits_name (names_before kind)) names_apart.1

  names_other : (are_unnamed (property_forms kind) ((type_name ∷ []) ++ form_names (member_form kind)) ≡ true)
      × (are_unnamed (property_forms kind) (traits_name ∷ []) ≡ true)
  names_other =
      both_true (are_unnamed (property_forms kind) ((type_name ∷ []) ++ form_names (member_form kind)))
      (are_unnamed (property_forms kind) (traits_name ∷ [])) (both_true (are_apart kind) (are_other kind) last_fit).1

-- a shape of a graph
pub record IsFoundShape (id : List ℕ) (kind : Kind) (ms : List FoundMember) (body : Members) (ts : WrittenPairs) : Type 0 where
  pub is_shape : IsShapeId id
  pub form : HaveForm (member_form kind) (found_names ms)
  pub members : AreFoundMembers ms
  pub fields : AreNodeFields (property_forms kind) body
  pub distinct : AreDistinct body
  pub traits : AreSoundTraits ts

abbrev pub shape_said_of : List ℕ → Kind → List FoundMember → Members → WrittenPairs → ShapeSaid
shape_said_of id kind ms body ts = record {
  id = id;
  kind = kind;
  members = found_said ms;
  mixins = [];
  properties = raw_object (raw_members_of (body_said (property_forms kind) body));
  traits = traits_of_pairs ts;
}

-- what a test of names says of pairs
some_known : (o : Option FieldForm) → is_some o ≡ true → (form : FieldForm) × (o ≡ Some form)
some_known None h = true_is_false (sym h)
some_known (Some form) h = (form, refl)

none_named : (o : Option PropertyForm) → not (is_some o) ≡ true → o ≡ None
none_named None h = refl
none_named (Some form) h = true_is_false (sym h)

known_name : (fs : FieldForms) (names : List (List ℕ)) → are_known fs names ≡ true → (k : List ℕ) → StandsAmong k names
    → (form : FieldForm) × (field_named k fs ≡ Some form)
known_name fs [] h k among = absurd among
known_name fs (j ∷ js) h k (inl same) =
    subst (λ x. (form : FieldForm) × (field_named x fs ≡ Some form)) (sym same)
    (some_known (field_named j fs) (both_true _ (are_known fs js) h).0)
known_name fs (j ∷ js) h k (inr among) = known_name fs js (both_true (is_some (field_named j fs)) (are_known fs js) h).1 k among

are_fields : (fs : FieldForms) (ps : WrittenPairs)
    → ((k : List ℕ) → StandsAmong k (are_under ps) → (form : FieldForm) × (field_named k fs ≡ Some form)) → AreFieldsOf fs (members_of ps)
are_fields fs [] h = tt
are_fields fs (p ∷ ps) h = (h p.0 (inl refl), are_fields fs ps (λ k among. h k (inr among)))

unnamed_name : (fs : TypeFields) (names : List (List ℕ)) → are_unnamed fs names ≡ true → (k : List ℕ) → StandsAmong k names
    → form_named k fs ≡ None
unnamed_name fs [] h k among = absurd among
unnamed_name fs (j ∷ js) h k (inl same) =
    ap (λ x. form_named x fs) same ∙ none_named (form_named j fs) (both_true _ (are_unnamed fs js) h).0
unnamed_name fs (j ∷ js) h k (inr among) = unnamed_name fs js (both_true (not (is_some (form_named j fs))) (are_unnamed fs js) h).1 k among

unnamed_pairs : (fs : TypeFields) (ps : WrittenPairs) → ((k : List ℕ) → StandsAmong k (are_under ps) → form_named k fs ≡ None)
    → AreUnnamed fs ps
unnamed_pairs fs [] h = tt
unnamed_pairs fs (p ∷ ps) h = (h p.0 (inl refl), unnamed_pairs fs ps (λ k among. h k (inr among)))

unnamed_within : (fs : TypeFields) (ps : WrittenPairs) (names : List (List ℕ)) → PairsWithin ps names → are_unnamed fs names ≡ true
    → AreUnnamed fs ps
unnamed_within fs ps names w h =
    unnamed_pairs fs ps (λ k among. unnamed_name fs names h k (within_stands (are_under ps) names w k among))

traits_within : (ts : WrittenPairs) → PairsWithin (written_traits ts) (traits_name ∷ [])
traits_within [] = tt
traits_within (t ∷ ts) = inl (refl, tt)

module _ (id : List ℕ) (kind : Kind) (ms : List FoundMember) (body : Members) (ts : WrittenPairs)
    (h : IsFoundShape id kind ms body ts) where
  abbrev head : WrittenPairs
  head = (type_name, text (kind_name kind)) ∷ []

  abbrev in_form : WrittenPairs
  in_form = written_in_form (member_form kind) (found_pairs ms)

  abbrev fields_written : WrittenPairs
  fields_written = written_properties (property_forms kind) body

  abbrev before : WrittenPairs
  before = head ++ in_form ++ fields_written

  abbrev pairs : WrittenPairs
  pairs = before ++ written_traits ts

  first_within : PairsWithin (head ++ in_form) ((type_name ∷ []) ++ form_names (member_form kind))
  first_within =
      pairs_joined head in_form (type_name ∷ []) (form_names (member_form kind)) (within_itself (type_name ∷ []))
      (subst (λ ks. PairsWithin in_form ks) (form_under (member_form kind) ms h.form) (within_itself (are_under in_form)))

  before_within : PairsWithin before (names_before kind)
  before_within =
      pairs_joined (head ++ in_form) fields_written ((type_name ∷ []) ++ form_names (member_form kind)) (field_names (property_forms kind))
      first_within (properties_within (property_forms kind) body)

  all_within : PairsWithin pairs (shape_names kind)
  all_within = pairs_joined before (written_traits ts) (names_before kind) (traits_name ∷ []) before_within (traits_within ts)

  named_nowhere : HasName mixins_name (members_of pairs) → ⊥
  named_nowhere has =
      apart_by_test mixins_name (shape_names kind) (no_mixins kind)
      (within_stands (are_under pairs) (shape_names kind) all_within mixins_name (has_under mixins_name pairs has))

  traits_later : HasName traits_name (members_of before) → ⊥
  traits_later has =
      apart_by_test traits_name (names_before kind) (no_traits kind)
      (within_stands (are_under before) (names_before kind) before_within traits_name (has_under traits_name before has))

  shape_parts : ShapeParts id (members_of pairs) (shape_said_of id kind ms body ts)
  shape_parts = record {
    type = inl (refl, refl);
    fields = are_fields (layout_of (Defined kind)) pairs
        (λ k among. known_name (layout_of (Defined kind)) (shape_names kind) (names_are_known kind) k
        (within_stands (are_under pairs) (shape_names kind) all_within k among));
    id = refl;
    is_shape = h.is_shape;
    members = form_says (member_form kind) ms (members_of pairs) h.form h.members
        (λ k n has. pair_before before (written_traits ts) k n
        (pair_before (head ++ in_form) fields_written k n (pair_behind head in_form k n has)));
    mixins = inr (named_nowhere, refl);
    properties = (
      raw_members_of (body_said (property_forms kind) body),
      refl,
      subst (λ ps. PropertyPairsSay (property_forms kind) (members_of ps) (raw_members_of (body_said (property_forms kind) body)))
          (sym (append_assoc (head ++ in_form) fields_written (written_traits ts)))
          (passed_over (property_forms kind) (head ++ in_form) (fields_written ++ written_traits ts) _
          (unnamed_within (property_forms kind) (head ++ in_form) ((type_name ∷ []) ++ form_names (member_form kind)) first_within
          (names_other kind).0)
          (fields_say (property_forms kind) (property_forms kind) (fields_among kind) body h.fields (written_traits ts)
          (all_passed_over (property_forms kind) (written_traits ts)
          (unnamed_within (property_forms kind) (written_traits ts) (traits_name ∷ []) (traits_within ts) (names_other kind).1)))),
    );
    traits = traits_behind before ts traits_later h.traits.ids;
  }

  pub shape_says : AstShape id (shape_object kind (found_pairs ms) body ts) (shape_said (shape_said_of id kind ms body ts))
  shape_says = (members_of pairs, refl, shape_parts)

  pub shape_distinct : HasDistinctNames (shape_object kind (found_pairs ms) body ts)
  shape_distinct =
      distinct_pairs pairs (differ_within (are_under pairs) (shape_names kind) all_within
      (differ_by_test (shape_names kind) (names_all_differ kind)))
      (distinct_joined before (written_traits ts)
      (distinct_joined (head ++ in_form) fields_written
      (distinct_joined head in_form (tt, tt) (form_distinct (member_form kind) ms h.form h.members))
      (fields_distinct (property_forms kind) body h.distinct))
      (written_traits_distinct ts h.traits))

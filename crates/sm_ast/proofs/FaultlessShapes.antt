-- What the relations say of shapes and of applied traits is refused nowhere.
use Rattle.std.proofs.Common.{◌≡◌, ℕ, inl, inr, not, ◌&&◌, ◌||◌, Bool, true, false, List, [], ◌∷◌, ◌++◌, map, Option, Some, None, refl}
use Rattle.std.proofs.Common.{sym, ap, subst, ◌∙◌, if◌then◌else◌, bytes_eq, codes}
use Rattle.sm_tree.specs.Node.{Node, Members, text, object, no_members, member}
use Rattle.sm_tree.specs.Same.{HasPair, HasDistinctNames, AreDistinct}
use Rattle.sm_model.specs.Kinds.{MemberForm, none, exactly, any, member_form, kind_name}
use Rattle.sm_model.specs.Properties.{TypeFields, form_named, property_forms}
use Rattle.sm_model.specs.Raw.{RawMembers}
use Rattle.sm_model.specs.Said.{MemberSaid, ShapeSaid, TraitSaid, Said, metadata_said, shape_said, apply_said}
use Rattle.sm_model.specs.declared.property.PropertyForm.{PropertyForm}
use Rattle.sm_model.specs.declared.kind.Kind.{Kind}
use Rattle.sm_model.specs.declared.kind.Kind.TheVariants.{Blob, Boolean, Text as text_kind, Enum, Byte, Short, Integer, IntEnum, Long}
use Rattle.sm_model.specs.declared.kind.Kind.TheVariants.{Float, Double, BigInteger}
use Rattle.sm_model.specs.declared.kind.Kind.TheVariants.{BigDecimal, Timestamp, Document, List as list_kind, Map, Structure, Union}
use Rattle.sm_model.specs.declared.kind.Kind.TheVariants.{Service, Operation, Resource}
use Rattle.sm_ast.specs.declared.layout.ShapeType.{ShapeType}
use Rattle.sm_ast.specs.declared.layout.ShapeType.TheVariants.{Defined, Applied}
use Rattle.sm_ast.specs.declared.layout.FieldForm.{FieldForm}
use Rattle.sm_ast.specs.declared.layout.FieldForm.TheVariants.{OneMember, AllMembers, Mixins, Traits}
use Rattle.sm_ast.specs.Ids.{is_id, has_member}
use Rattle.sm_ast.specs.Layout.{FieldForms, field_named, layout_of, shape_fields, member_fields, property_fields, mixin_fields, needed}
use Rattle.sm_ast.specs.Layout.{needed_members, type_name, members_name, mixins_name, traits_name}
use Rattle.sm_ast.specs.Ast.{AreFieldsOf, OrNothing, ReferencesSay, TraitsSay, MembersObjectSays, NamedMembersSay, AstMembers}
use Rattle.sm_ast.specs.Ast.{PropertyPairsSay, ShapeParts, ApplyParts, AstShape}
use Rattle.sm_tree.specs.Parts.{tree_named}
use Rattle.sm_ast.specs.Faults.{AstFault, bad_id, unless, earlier_of, names_of, are_there, form_fault, property_fault}
use Rattle.sm_ast.specs.Faults.{type_said, typed_fault, shape_pairs_fault, shape_value_fault, says_apply, shape_fault}
use Rattle.sm_ast.proofs.IdTests.{id_passes, plain_id}
use Rattle.sm_ast.proofs.Fields.{named_kind}
use Rattle.sm_ast.proofs.Judged.{either_way, same_text, some_is_none, some_same, pair_name}
use Rattle.sm_ast.proofs.SaidFields.{AllForms}
use Rattle.sm_ast.proofs.FaultlessParts.{pairs_pass, object_passes, pair_named, one_under, stands_under, distinct_under, references_pass}
use Rattle.sm_ast.proofs.FaultlessParts.{traits_pass, member_passes, members_pass_named, property_passes}

-- what holds of each field of a layout holds of one that is found
abbrev AllFields : (List ℕ → FieldForm → Type 0) → FieldForms → Type 0
AllFields P [] = Unit {0}
AllFields P (f ∷ fs) = P f.0 f.1 × AllFields P fs

all_behind : (P : List ℕ → FieldForm → Type 0) (fs gs : FieldForms) → AllFields P fs → AllFields P gs → AllFields P (fs ++ gs)
all_behind P [] gs all more = more
all_behind P (f ∷ fs) gs all more = (all.0, all_behind P fs gs all.1 more)

field_found : (P : List ℕ → FieldForm → Type 0) (fs : FieldForms) → AllFields P fs → (k : List ℕ) (form : FieldForm)
    → field_named k fs ≡ Some form → P k form
field_found P [] all k form e = some_is_none form (sym e)
field_found P (f ∷ fs) all k form e = elim (either_way (bytes_eq k f.0)) [
  | inl same ↦ subst (P k) (some_same f.1 form (ap (λ b. if b then Some f.1 else field_named k fs) (sym same) ∙ e))
      (subst (λ j. P j f.1) (sym (same_text k f.0 same)) all.0)
  | inr other ↦ field_found P fs all.1 k form (ap (λ b. if b then Some f.1 else field_named k fs) (sym other) ∙ e)
]

-- a field is refused nowhere in these pairs
abbrev Passes : Members → List ℕ → FieldForm → Type 0
Passes ms k form = (n : Node) → HasPair k n ms → form_fault (Some form) n ≡ None

field_of : (fs : FieldForms) (ms : Members) → AreFieldsOf fs ms → (k : List ℕ) (n : Node) → HasPair k n ms
    → (form : FieldForm) × (field_named k fs ≡ Some form)
field_of fs no_members fields k n has = absurd has
field_of fs (member l m ms) fields k n (inl same) =
    (fields.0.0, ap (λ j. field_named j fs) same.0 ∙ fields.0.1)
field_of fs (member l m ms) fields k n (inr has) = field_of fs ms fields.1 k n has

fields_pass : (type : ShapeType) (ms : Members) → AreDistinct ms → AreFieldsOf (layout_of type) ms → AllFields (Passes ms) (layout_of type)
    → are_there (needed type) (names_of ms) ≡ true → typed_fault (Some type) ms ≡ None
fields_pass type ms d fields all there =
    object_passes (λ k n. form_fault (field_named k (layout_of type)) n) (needed type) ms
    (pairs_pass (λ k n. form_fault (field_named k (layout_of type)) n) ms d
    (λ k n has. let found = field_of (layout_of type) ms fields k n has in
    ap (λ o. form_fault o n) found.1 ∙ field_found (Passes ms) (layout_of type) all k found.0 found.1 n has)) there

-- what may be missing
or_nothing_passes : {X : Type 0} (name : List ℕ) (ms : Members) (Says : Node → List X → Type 0) (xs : List X)
    (judge : Node → Option AstFault)
    → AreDistinct ms → ((n : Node) → HasDistinctNames n → Says n xs → judge n ≡ None) → OrNothing name ms Says xs → (n : Node)
    → HasPair name n ms → judge n ≡ None
or_nothing_passes name ms Says xs judge d each (inl said) n has =
    ap judge (one_under name n said.0 ms d has said.1) ∙ each said.0 (distinct_under name said.0 ms d said.1) said.2
or_nothing_passes name ms Says xs judge d each (inr missing) n has = absurd (missing.0 (pair_name name n ms has))

-- members
named_pass : (ms : Members) → AreDistinct ms → (ks : List (List ℕ)) (said : List MemberSaid) → NamedMembersSay ks ms said
    → AllFields (Passes ms) (map (λ name. (name, OneMember)) ks)
named_pass ms d [] said says = tt
named_pass ms d (k ∷ ks) said (n, m, more, is, has, says, rest) = (
  (λ o other. ap (form_fault (Some OneMember)) (one_under k o n ms d other has) ∙ member_passes k n m (distinct_under k n ms d has) says),
  named_pass ms d ks more rest,
)

members_fields_pass : (form : MemberForm) (ms : Members) (said : List MemberSaid) → AreDistinct ms → AstMembers form ms said
    → AllFields (Passes ms) (member_fields form)
members_fields_pass none ms said d says = tt
members_fields_pass (exactly names) ms said d says = named_pass ms d names said says
members_fields_pass any ms said d says = (
  or_nothing_passes members_name ms MembersObjectSays said (form_fault (Some AllMembers)) d (λ n e f. members_pass_named n said e f) says,
  tt,
)

named_there : (ms : Members) → AreDistinct ms → (ks : List (List ℕ)) (said : List MemberSaid) → NamedMembersSay ks ms said
    → are_there ks (names_of ms) ≡ true
named_there ms d [] said says = refl
named_there ms d (k ∷ ks) said (n, m, more, is, has, says, rest) =
    ap (λ b. b && are_there ks (names_of ms)) (stands_under k n ms d has) ∙ named_there ms d ks more rest

members_there : (form : MemberForm) (ms : Members) (said : List MemberSaid) → AreDistinct ms → AstMembers form ms said
    → are_there (needed_members form) (names_of ms) ≡ true
members_there none ms said d says = refl
members_there (exactly names) ms said d says = named_there ms d names said says
members_there any ms said d says = refl

-- fields of operations, services and resources
property_at : (fs : TypeFields) (ms : Members) → AreDistinct ms → (said : RawMembers) → PropertyPairsSay fs ms said → (k : List ℕ)
    (form : PropertyForm) → form_named k fs ≡ Some form → (n : Node) → HasPair k n ms → property_fault form n ≡ None
property_at fs no_members d said says k form is n has = absurd has
property_at fs (member l m ms) d said (inl skipped) k form is n (inl same) =
    some_is_none form (sym is ∙ ap (λ j. form_named j fs) same.0 ∙ skipped.0)
property_at fs (member l m ms) d said (inl skipped) k form is n (inr has) = property_at fs ms d.2 said skipped.1 k form is n has
property_at fs (member l m ms) d said (inr taken) k form is n (inl same) =
    ap (λ o. property_fault o n) (some_same form taken.0 (sym is ∙ ap (λ j. form_named j fs) same.0 ∙ taken.3))
    ∙ ap (property_fault taken.0) same.1
    ∙ property_passes taken.0 m taken.1 d.1 taken.4
property_at fs (member l m ms) d said (inr taken) k form is n (inr has) = property_at fs ms d.2 taken.2 taken.6 k form is n has

properties_pass : (fs : TypeFields) (ms : Members) → AreDistinct ms → (said : RawMembers) → PropertyPairsSay fs ms said → (gs : TypeFields)
    → AllForms (λ k form. form_named k fs ≡ Some form) gs → AllFields (Passes ms) (property_fields gs)
properties_pass fs ms d said says [] all = tt
properties_pass fs ms d said says (g ∷ gs) all = (property_at fs ms d said says g.0 g.1 all.0, properties_pass fs ms d said says gs all.1)

own_forms : (kind : Kind) → AllForms (λ k form. form_named k (property_forms kind) ≡ Some form) (property_forms kind)
own_forms Blob = tt
own_forms Boolean = tt
own_forms text_kind = tt
own_forms Enum = tt
own_forms Byte = tt
own_forms Short = tt
own_forms Integer = tt
own_forms IntEnum = tt
own_forms Long = tt
own_forms Float = tt
own_forms Double = tt
own_forms BigInteger = tt
own_forms BigDecimal = tt
own_forms Timestamp = tt
own_forms Document = tt
own_forms list_kind = tt
own_forms Map = tt
own_forms Structure = tt
own_forms Union = tt
own_forms Service = (refl, (refl, (refl, (refl, (refl, tt)))))
own_forms Operation = (refl, (refl, (refl, tt)))
own_forms Resource = (refl, (refl, (refl, (refl, (refl, (refl, (refl, (refl, (refl, (refl, (refl, tt)))))))))))

-- traits and mixins
mixins_pass : (kind : Kind) (ms : Members) → Passes ms mixins_name Mixins → AllFields (Passes ms) (mixin_fields kind)
mixins_pass Blob ms each = (each, tt)
mixins_pass Boolean ms each = (each, tt)
mixins_pass text_kind ms each = (each, tt)
mixins_pass Enum ms each = (each, tt)
mixins_pass Byte ms each = (each, tt)
mixins_pass Short ms each = (each, tt)
mixins_pass Integer ms each = (each, tt)
mixins_pass IntEnum ms each = (each, tt)
mixins_pass Long ms each = (each, tt)
mixins_pass Float ms each = (each, tt)
mixins_pass Double ms each = (each, tt)
mixins_pass BigInteger ms each = (each, tt)
mixins_pass BigDecimal ms each = (each, tt)
mixins_pass Timestamp ms each = (each, tt)
mixins_pass Document ms each = (each, tt)
mixins_pass list_kind ms each = (each, tt)
mixins_pass Map ms each = (each, tt)
mixins_pass Structure ms each = (each, tt)
mixins_pass Union ms each = (each, tt)
mixins_pass Service ms each = tt
mixins_pass Operation ms each = tt
mixins_pass Resource ms each = tt

-- a shape
shape_all : (k : List ℕ) (ms : Members) (said : ShapeSaid) → AreDistinct ms → ShapeParts k ms said
    → AllFields (Passes ms) (shape_fields said.kind)
shape_all k ms said d parts =
    let last : AllFields (Passes ms) ((traits_name, Traits) ∷ mixin_fields said.kind) = (
      or_nothing_passes traits_name ms TraitsSay said.traits (form_fault (Some Traits)) d
          (λ n e f. traits_pass n said.traits e f) parts.traits,
      mixins_pass said.kind ms
          (or_nothing_passes mixins_name ms ReferencesSay said.mixins (form_fault (Some Mixins)) d
          (λ n e f. references_pass n said.mixins f) parts.mixins),
    ) in
    let own : AllFields (Passes ms) (property_fields (property_forms said.kind)) =
    properties_pass (property_forms said.kind) ms d parts.properties.0 parts.properties.2 (property_forms said.kind)
    (own_forms said.kind) in
    all_behind (Passes ms) (member_fields (member_form said.kind) ++ property_fields (property_forms said.kind))
    ((traits_name, Traits) ∷ mixin_fields said.kind)
    (all_behind (Passes ms) (member_fields (member_form said.kind)) (property_fields (property_forms said.kind))
    (members_fields_pass (member_form said.kind) ms said.members d parts.members) own) last

shape_passes : (k : List ℕ) (ms : Members) (said : ShapeSaid) → AreDistinct ms → ShapeParts k ms said
    → typed_fault (Some (Defined said.kind)) ms ≡ None
shape_passes k ms said d parts =
    fields_pass (Defined said.kind) ms d parts.fields ((λ n has. refl), shape_all k ms said d parts)
    (members_there (member_form said.kind) ms said.members d parts.members)

apply_passes : (k : List ℕ) (ms : Members) (ts : List TraitSaid) → AreDistinct ms → ApplyParts k ms ts
    → typed_fault (Some Applied) ms ≡ None
apply_passes k ms ts d parts =
    fields_pass Applied ms d parts.fields (
      (λ n has. refl),
      (
        (λ n has. ap (form_fault (Some Traits)) (one_under traits_name n parts.node ms d has parts.traits)
            ∙ traits_pass parts.node ts (distinct_under traits_name parts.node ms d parts.traits) parts.says),
        tt,
      ),
    ) (ap (λ b. b && are_there [] (names_of ms)) (stands_under traits_name parts.node ms d parts.traits))

-- the id, and the type
typed_by : (k : List ℕ) (ms : Members) (t : List ℕ) (type : ShapeType) → AreDistinct ms → HasPair type_name (text t) ms
    → type_said (text t) ≡ Some type → typed_fault (Some type) ms ≡ None → shape_value_fault (object ms) ≡ None
typed_by k ms t type d has is e =
    ap (λ o. shape_pairs_fault o ms) (pair_named type_name (text t) ms d has) ∙ ap (λ o. typed_fault o ms) is ∙ e

key_passes : (k : List ℕ) (ms : Members) → is_id k ≡ true → (not (has_member k) || says_apply (tree_named type_name ms)) ≡ true
    → shape_value_fault (object ms) ≡ None → shape_fault k (object ms) ≡ None
key_passes k ms id key e =
    ap (λ b. earlier_of (unless (b && (not (has_member k) || says_apply (tree_named type_name ms))) (bad_id []))
    (shape_value_fault (object ms))) id
    ∙ ap (λ b. earlier_of (unless b (bad_id [])) (shape_value_fault (object ms))) key ∙ e

or_last : (a b : Bool) → b ≡ true → (a || b) ≡ true
or_last true b e = refl
or_last false b e = e

pub shape_no_fault : (k : List ℕ) (n : Node) (said : Said) → HasDistinctNames n → AstShape k n said → shape_fault k n ≡ None
shape_no_fault k n (metadata_said key value) d says = absurd says
shape_no_fault k n (shape_said said) d (ms, is, parts) =
    let distinct : AreDistinct ms = subst HasDistinctNames is d in
    let plain = plain_id k parts.is_shape in
    ap (shape_fault k) is ∙ key_passes k ms plain.0 (ap (λ b. not b || says_apply (tree_named type_name ms)) plain.1)
    (typed_by k ms (kind_name said.kind) (Defined said.kind) distinct parts.type (named_kind said.kind)
    (shape_passes k ms said distinct parts))
shape_no_fault k n (apply_said r ts) d (ms, is, same, parts) =
    let distinct : AreDistinct ms = subst HasDistinctNames is d in
    ap (shape_fault k) is ∙ key_passes k ms (id_passes k parts.is_id)
    (or_last (not (has_member k)) _ (ap says_apply (pair_named type_name (text (codes "apply")) ms distinct parts.type)))
    (typed_by k ms (codes "apply") Applied distinct parts.type refl (apply_passes k ms ts distinct parts))

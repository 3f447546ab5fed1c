-- Shapes without a fault, and traits that are applied, say what is read of them.
use Rattle.std.proofs.Common.{◌≡◌, ℕ, inl, inr, not, ◌||◌, Bool, true, false, List, [], ◌∷◌, ◌++◌, Option, Some, None, refl, sym, ap}
use Rattle.std.proofs.Common.{subst, ◌∙◌, if◌then◌else◌, codes}
use Rattle.sm_tree.specs.Node.{Node, Members, text, object, no_members, member}
use Rattle.sm_tree.specs.Same.{HasPair}
use Rattle.sm_model.specs.Kinds.{any, member_form, kind_name}
use Rattle.sm_model.specs.Properties.{property_forms}
use Rattle.sm_model.specs.References.{IsShapeId}
use Rattle.sm_model.specs.Raw.{raw_members_of}
use Rattle.sm_model.specs.declared.kind.Kind.{Kind}
use Rattle.sm_model.specs.declared.kind.Kind.TheVariants.{Blob, Boolean, Text as text_kind, Enum, Byte, Short, Integer, IntEnum, Long}
use Rattle.sm_model.specs.declared.kind.Kind.TheVariants.{Float, Double, BigInteger}
use Rattle.sm_model.specs.declared.kind.Kind.TheVariants.{BigDecimal, Timestamp, Document, List as list_kind, Map, Structure, Union}
use Rattle.sm_model.specs.declared.kind.Kind.TheVariants.{Service, Operation, Resource}
use Rattle.sm_ast.specs.declared.layout.ShapeType.{ShapeType}
use Rattle.sm_ast.specs.declared.layout.ShapeType.TheVariants.{Defined, Applied}
use Rattle.sm_ast.specs.declared.layout.FieldForm.{FieldForm}
use Rattle.sm_ast.specs.declared.layout.FieldForm.TheVariants.{OneMember, AllMembers, Traits}
use Rattle.sm_ast.specs.Ids.{is_id, has_member}
use Rattle.sm_ast.specs.Layout.{FieldForms, field_named, layout_of, needed, type_name, members_name, mixins_name, traits_name}
use Rattle.sm_ast.specs.Ast.{AreFieldsOf, ReferencesSay, TraitsSay, AstMember, MembersObjectSays, NamedMembersSay, AstMembers, ShapeParts}
use Rattle.sm_ast.specs.Ast.{ApplyParts, AstShape}
use Rattle.sm_ast.specs.Faults.{AstFault, field, wrong_type, bad_id, unless, names_of, stands_in, are_there, pairs_fault, form_fault}
use Rattle.sm_tree.specs.Parts.{tree_named}
use Rattle.sm_ast.specs.Faults.{members_fault, type_said, typed_fault, shape_pairs_fault, shape_value_fault, says_apply}
use Rattle.sm_ast.specs.Faults.{is_shape_key, shape_fault}
use Rattle.sm_ast.specs.steps.Saying.{references_there, traits_there, member_there, members_there, named_members_said, members_by_form}
use Rattle.sm_ast.specs.steps.Saying.{property_pairs, shape_by_kind, applied_said, type_there, statement_by_type, statement_said}
use Rattle.sm_ast.proofs.IdTests.{passed_is_id}
use Rattle.sm_ast.proofs.Judged.{both_true, true_is_false, some_is_none, none_first, none_unless, none_of_pairs, judged_pair, named_pair}
use Rattle.sm_ast.proofs.Judged.{found_named}
use Rattle.sm_ast.proofs.SaidReferences.{by_object, references_hold, or_nothing, traits_hold, member_holds, members_hold}
use Rattle.sm_ast.proofs.SaidTypes.{defined_is, applied_is, without_dollar}
use Rattle.sm_ast.proofs.SaidFields.{property_field, property_pairs_hold, traits_field, mixins_field}

-- the judge of the pairs of a shape
abbrev judge_of : ShapeType → List ℕ → Node → Option AstFault
judge_of type k n = form_fault (field_named k (layout_of type)) n

-- every pair is a field
fields_hold : (fs : FieldForms) (before : List (List ℕ)) (ms : Members)
    → pairs_fault (λ k n. form_fault (field_named k fs) n) before ms ≡ None
    → AreFieldsOf fs ms
fields_hold fs before no_members e = tt
fields_hold fs before (member k n ms) e =
    let parts = none_of_pairs (λ j m. form_fault (field_named j fs) m) before k n ms e in
    (known (field_named k fs) parts.1, fields_hold fs (before ++ k ∷ []) ms parts.2)
  where
    known : (o : Option FieldForm) → form_fault o n ≡ None → (form : FieldForm) × (o ≡ Some form)
    known None f = some_is_none (field []) f
    known (Some form) f = (form, refl)

-- what stands in a field of a known form passed that form's judge
by_form : (type : ShapeType) (ms : Members) → pairs_fault (judge_of type) [] ms ≡ None → (k : List ℕ) (form : FieldForm)
    → field_named k (layout_of type) ≡ Some form → (n : Node) → HasPair k n ms → form_fault (Some form) n ≡ None
by_form type ms e k form is n has = ap (λ o. form_fault o n) (sym is) ∙ judged_pair (judge_of type) [] ms e k n has

-- members
abbrev AllOne : ShapeType → List (List ℕ) → Type 0
AllOne type [] = Unit {0}
AllOne type (k ∷ ks) = (field_named k (layout_of type) ≡ Some OneMember) × AllOne type ks

named_members_hold : (type : ShapeType) (ms : Members) → pairs_fault (judge_of type) [] ms ≡ None → (ks : List (List ℕ)) → AllOne type ks
    → are_there ks (names_of ms) ≡ true → NamedMembersSay ks ms (named_members_said ks ms)
named_members_hold type ms e [] all there = refl
named_members_hold type ms e (k ∷ ks) all there =
    let each = both_true (stands_in k (names_of ms)) (are_there ks (names_of ms)) there in
    let found = found_named k ms each.0 in
    let has = named_pair k ms found.0 found.1 in (
      found.0,
      member_there k (tree_named k ms),
      named_members_said ks ms,
      refl,
      has,
      subst (λ o. AstMember k found.0 (member_there k o)) (sym found.1)
          (member_holds k found.0 (by_form type ms e k OneMember all.0 found.0 has)),
      named_members_hold type ms e ks all.1 each.1,
    )

any_members_hold : (type : ShapeType) (ms : Members) → pairs_fault (judge_of type) [] ms ≡ None
    → field_named members_name (layout_of type) ≡ Some AllMembers → AstMembers any ms (members_there (tree_named members_name ms))
any_members_hold type ms e is =
    or_nothing members_name ms MembersObjectSays members_there refl
    (λ n has. members_hold n (by_form type ms e members_name AllMembers is n has))

shape_members : (kind : Kind) (ms : Members) → pairs_fault (judge_of (Defined kind)) [] ms ≡ None
    → are_there (needed (Defined kind)) (names_of ms) ≡ true → AstMembers (member_form kind) ms (members_by_form (member_form kind) ms)
shape_members list_kind ms e there = named_members_hold (Defined list_kind) ms e (codes "member" ∷ []) (refl, tt) there
shape_members Map ms e there = named_members_hold (Defined Map) ms e (codes "key" ∷ codes "value" ∷ []) (refl, (refl, tt)) there
shape_members Structure ms e there = any_members_hold (Defined Structure) ms e refl
shape_members Union ms e there = any_members_hold (Defined Union) ms e refl
shape_members Enum ms e there = any_members_hold (Defined Enum) ms e refl
shape_members IntEnum ms e there = any_members_hold (Defined IntEnum) ms e refl
shape_members Blob ms e there = refl
shape_members Boolean ms e there = refl
shape_members text_kind ms e there = refl
shape_members Byte ms e there = refl
shape_members Short ms e there = refl
shape_members Integer ms e there = refl
shape_members Long ms e there = refl
shape_members Float ms e there = refl
shape_members Double ms e there = refl
shape_members BigInteger ms e there = refl
shape_members BigDecimal ms e there = refl
shape_members Timestamp ms e there = refl
shape_members Document ms e there = refl
shape_members Service ms e there = refl
shape_members Operation ms e there = refl
shape_members Resource ms e there = refl

-- a shape of a type
mixins_hold : (kind : Kind) (n : Node) → judge_of (Defined kind) mixins_name n ≡ None → ReferencesSay n (references_there (Some n))
mixins_hold kind n e = elim (mixins_field kind) [
  | inl is ↦ references_hold n (ap (λ o. form_fault o n) (sym is) ∙ e)
  | inr is ↦ some_is_none (field []) (ap (λ o. form_fault o n) (sym is) ∙ e)
]

shape_parts : (k : List ℕ) (kind : Kind) (ms : Members) (t : Node) → tree_named type_name ms ≡ Some t → type_said t ≡ Some (Defined kind)
    → IsShapeId k → typed_fault (Some (Defined kind)) ms ≡ None → ShapeParts k ms (shape_by_kind k kind ms)
shape_parts k kind ms t named said id e =
    let parts = none_first (pairs_fault (judge_of (Defined kind)) [] ms) _ e in
    record {
      type = subst (λ n. HasPair type_name n ms) (defined_is t kind said) (named_pair type_name ms t named);
      fields = fields_hold (layout_of (Defined kind)) [] ms parts.0;
      id = refl;
      is_shape = id;
      members = shape_members kind ms parts.0 (none_unless _ (field []) parts.1);
      mixins = or_nothing mixins_name ms ReferencesSay references_there refl
          (λ n has. mixins_hold kind n (judged_pair (judge_of (Defined kind)) [] ms parts.0 mixins_name n has));
      properties = (
        raw_members_of (property_pairs (property_forms kind) ms),
        refl,
        property_pairs_hold (property_forms kind) (judge_of (Defined kind))
            (λ j n form is f. ap (λ o. form_fault o n) (sym (property_field kind j form is)) ∙ f) [] ms parts.0,
      );
      traits = or_nothing traits_name ms TraitsSay traits_there refl
          (λ n has. traits_hold n (by_form (Defined kind) ms parts.0 traits_name Traits (traits_field kind) n has));
    }

-- traits that are applied
apply_parts : (k : List ℕ) (ms : Members) (t : Node) → tree_named type_name ms ≡ Some t → type_said t ≡ Some Applied → is_id k ≡ true
    → typed_fault (Some Applied) ms ≡ None → ApplyParts k ms (traits_there (tree_named traits_name ms))
apply_parts k ms t named said id e =
    let parts = none_first (pairs_fault (judge_of Applied) [] ms) _ e in
    let there = both_true (stands_in traits_name (names_of ms)) _ (none_unless _ (field []) parts.1) in
    let found = found_named traits_name ms there.0 in
    let has = named_pair traits_name ms found.0 found.1 in
    record {
      type = subst (λ n. HasPair type_name n ms) (applied_is t said) (named_pair type_name ms t named);
      fields = fields_hold (layout_of Applied) [] ms parts.0;
      is_id = passed_is_id k id;
      node = found.0;
      traits = has;
      says = subst (λ o. TraitsSay found.0 (traits_there o)) (sym found.1)
          (traits_hold found.0 (by_form Applied ms parts.0 traits_name Traits refl found.0 has));
    }

-- a shape's name is not `apply`
no_apply : (kind : Kind) → says_apply (Some (text (kind_name kind))) ≡ false
no_apply Blob = refl
no_apply Boolean = refl
no_apply text_kind = refl
no_apply Enum = refl
no_apply Byte = refl
no_apply Short = refl
no_apply Integer = refl
no_apply IntEnum = refl
no_apply Long = refl
no_apply Float = refl
no_apply Double = refl
no_apply BigInteger = refl
no_apply BigDecimal = refl
no_apply Timestamp = refl
no_apply Document = refl
no_apply list_kind = refl
no_apply Map = refl
no_apply Structure = refl
no_apply Union = refl
no_apply Service = refl
no_apply Operation = refl
no_apply Resource = refl

plain_key : (member_there applies : Bool) → (not member_there || applies) ≡ true → applies ≡ false → member_there ≡ false
plain_key true applies e other = true_is_false (sym e ∙ other)
plain_key false applies e other = refl

typed_holds : (k : List ℕ) (ms : Members) (t : Node) → tree_named type_name ms ≡ Some t → is_id k ≡ true
    → (not (has_member k) || says_apply (Some t)) ≡ true → (o : Option ShapeType) → type_said t ≡ o → typed_fault o ms ≡ None
    → AstShape k (object ms) (statement_by_type o k ms)
typed_holds k ms t named id key None said e = some_is_none (wrong_type []) e
typed_holds k ms t named id key (Some (Defined kind)) said e =
    let plain = plain_key (has_member k) (says_apply (Some t)) key
    (ap (λ n. says_apply (Some n)) (defined_is t kind said) ∙ no_apply kind) in
    (ms, refl, shape_parts k kind ms t named said (without_dollar k id plain) e)
typed_holds k ms t named id key (Some Applied) said e = (ms, refl, refl, apply_parts k ms t named said id e)

pairs_hold : (k : List ℕ) (ms : Members) → is_id k ≡ true → (o : Option Node) → tree_named type_name ms ≡ o
    → (not (has_member k) || says_apply o) ≡ true → shape_pairs_fault o ms ≡ None
    → AstShape k (object ms) (statement_by_type (type_there o) k ms)
pairs_hold k ms id None named key e = some_is_none (field []) (none_first (members_fault [] ms) (Some (field [])) e).1
pairs_hold k ms id (Some t) named key e = typed_holds k ms t named id key (type_said t) refl e

pub shape_holds : (k : List ℕ) (n : Node) → shape_fault k n ≡ None → AstShape k n (statement_said k n)
shape_holds k n e =
    let parts = none_first (unless (is_shape_key k n) (bad_id [])) (shape_value_fault n) e in
    by_object (λ m. is_shape_key k m ≡ true → AstShape k m (statement_said k m))
    (λ ms. shape_pairs_fault (tree_named type_name ms) ms) n parts.1
    (λ ms f passed.
    let key = both_true (is_id k) (not (has_member k) || says_apply (tree_named type_name ms)) passed in
    subst (λ b. AstShape k (object ms) (if b then statement_by_type (type_there (tree_named type_name ms)) k ms else applied_said k ms))
    (sym key.0)
    (pairs_hold k ms key.0 (tree_named type_name ms) refl key.1 f))
    (none_unless (is_shape_key k n) (bad_id []) parts.0)

-- Shapes and items can be read from the front.
use Rattle.std.proofs.Common.{◌≡◌, inl, inr, ℕ, false, List, [], ◌∷◌, ◌++◌, None, bytes_eq, codes, refl, sym, ◌∙◌}
use Rattle.sm_ids.specs.Identifier.{IsIdentifier}
use Rattle.sm_model.specs.Kinds.{kind_name, member_form, MemberForm, any}
use Rattle.sm_model.specs.Properties.{property_forms}
use Rattle.sm_model.specs.Said.{TraitSaid, MemberSaid, shape_said}
use Rattle.sm_model.specs.declared.kind.Kind.{Kind}
use Rattle.sm_model.specs.declared.kind.Kind.TheVariants.{Blob, Boolean, Text, Enum, Byte, Short, Integer, IntEnum, Long, Float}
use Rattle.sm_model.specs.declared.kind.Kind.TheVariants.{Double, BigInteger}
use Rattle.sm_model.specs.declared.kind.Kind.TheVariants.{BigDecimal, Timestamp, Document, List as list_kind, Map, Structure, Union}
use Rattle.sm_model.specs.declared.kind.Kind.TheVariants.{Service, Operation, Resource}
use Rattle.sm_idl.specs.Productions.{Production, gives, ◌>>=◌, each}
use Rattle.sm_idl.specs.Words.{IsWord, mark, identifier}
use Rattle.sm_idl.specs.Nodes.{Home}
use Rattle.sm_idl.specs.Traits.{traits, apply}
use Rattle.sm_idl.specs.Members.{enum_member, member, field, members, mixins}
use Rattle.sm_idl.specs.Bodies.{Suffixes, part, property, braced_pairs}
use Rattle.sm_idl.specs.Shapes.{type_word, BodySaid, simple_body, members_body, operation_body, pairs_body, body, stated_shape, shape_with}
use Rattle.sm_idl.specs.Shapes.{shape, apply_item, item}
use Rattle.sm_idl.specs.steps.ReaderView.{NoToken}
use Rattle.sm_idl.specs.steps.Classes.{Either, AWord, Paren, TraitGoesOn, Brace, Equals, MemberStart, With}
use Rattle.sm_idl.specs.steps.FileClasses.{TypeWord, ShapeStart, Apply, ItemStart, ItemGoesOn}
use Rattle.sm_idl.specs.steps.Firm.{Class, AreApart, IsFirm}
use Rattle.sm_idl.proofs.FirmParts.{firm_wider}
use Rattle.sm_idl.proofs.FirmEach.{firm_or}
use Rattle.sm_idl.proofs.FirmShort.{token_firm, then_firm, given_firm, front_firm, row_firm}
use Rattle.sm_idl.proofs.TokenClasses.{marks_unlike, words_unlike, mark_no_word, turned, apart_either, either_apart}
use Rattle.sm_idl.proofs.KindNames.{kind_named, one_kind, no_type_word}
use Rattle.sm_idl.proofs.FirmNodes.{mark_firm}
use Rattle.sm_idl.proofs.FirmDocumented.{documented_firm}
use Rattle.sm_idl.proofs.FirmTraits.{word_firm, traits_firm, apply_firm}
use Rattle.sm_idl.proofs.FirmMembers.{members_firm, enum_member_firm, plain_firm, field_firm, mixins_firm}
use Rattle.sm_idl.proofs.FirmBodies.{with_no_brace, part_firm, braced_pairs_firm, property_firm}

pub type_word_firm : IsFirm ⊥ TypeWord NoToken type_word
type_word_firm = token_firm (λ t k. IsWord (kind_name k) t) TypeWord (λ t j k h m. one_kind j k (sym h.1 ∙ m.1)) (λ t k h. (k, h))

-- what begins the body of a shape
abbrev BodyStart : Class
BodyStart = Either With Brace

loose : (A H : Class) (P : Production BodySaid) → ((t : _) → A t → BodyStart t) → ((t : _) → H t → With t) → IsFirm ⊥ A H P
    → IsFirm (Unit {0}) BodyStart With P
loose A H P a h p = firm_wider (λ e. tt) a h p

simple_firm : (home : Home) → IsFirm (Unit {0}) BodyStart With (simple_body home)
simple_firm home = firm_wider (λ e. e) (λ t a. inl a) (λ t h. h) (given_firm (mixins home) (λ mixed. _) (mixins_firm home))

with_members_firm : (home : Home) (form : MemberForm) (P : List MemberSaid → Production MemberSaid)
    → ((before : List MemberSaid) → IsFirm ⊥ MemberStart Equals (P before)) → IsFirm (Unit {0}) BodyStart With (members_body home form P)
with_members_firm home form P p = loose BodyStart NoToken (members_body home form P) (λ t a. a) (λ t n. absurd n)
    (front_firm (mixins home) _ (mixins_firm home) (λ mixed. given_firm (members form P) (λ ms. _) (members_firm form P p)) with_no_brace)

operation_firm : (home : Home) (endings : Suffixes) (name : List ℕ) → IsFirm (Unit {0}) BodyStart With (operation_body home endings name)
operation_firm home endings name = loose Brace NoToken (operation_body home endings name) (λ t a. inr a) (λ t n. absurd n)
    (then_firm (mark (codes "{")) _ (mark_firm (codes "{")) (λ _.
    front_firm (each (part home endings name)) _ (row_firm (part home endings name) [] (part_firm home endings name)) (λ ps.
    given_firm (mark (codes "}")) (λ _. _) (mark_firm (codes "}"))) (turned _ _ (mark_no_word (codes "}")))))

pairs_firm : (home : Home) (kind : Kind) → IsFirm (Unit {0}) BodyStart With (pairs_body home kind)
pairs_firm home kind = loose Brace NoToken (pairs_body home kind) (λ t a. inr a) (λ t n. absurd n)
    (given_firm (braced_pairs (property home (property_forms kind))) (λ properties. _)
    (braced_pairs_firm (property home (property_forms kind)) (property_firm home (property_forms kind))))

pub body_firm : (home : Home) (endings : Suffixes) (kind : Kind) (name : List ℕ)
    → IsFirm (Unit {0}) BodyStart With (body home endings kind name)
body_firm home endings Blob name = simple_firm home
body_firm home endings Boolean name = simple_firm home
body_firm home endings Text name = simple_firm home
body_firm home endings Byte name = simple_firm home
body_firm home endings Short name = simple_firm home
body_firm home endings Integer name = simple_firm home
body_firm home endings Long name = simple_firm home
body_firm home endings Float name = simple_firm home
body_firm home endings Double name = simple_firm home
body_firm home endings BigInteger name = simple_firm home
body_firm home endings BigDecimal name = simple_firm home
body_firm home endings Timestamp name = simple_firm home
body_firm home endings Document name = simple_firm home
body_firm home endings Enum name = with_members_firm home any (enum_member home) (enum_member_firm home)
body_firm home endings IntEnum name = with_members_firm home any (enum_member home) (enum_member_firm home)
body_firm home endings list_kind name = with_members_firm home (member_form list_kind) (member home (member_form list_kind))
    (plain_firm home (member_form list_kind))
body_firm home endings Map name = with_members_firm home (member_form Map) (member home (member_form Map)) (plain_firm home
    (member_form Map))
body_firm home endings Union name = with_members_firm home any (member home any) (plain_firm home any)
body_firm home endings Structure name = with_members_firm home any (field home) (field_firm home)
body_firm home endings Operation name = operation_firm home endings name
body_firm home endings Service name = pairs_firm home Service
body_firm home endings Resource name = pairs_firm home Resource

pub type_no_trait : AreApart TraitGoesOn TypeWord
type_no_trait = either_apart _ _ _ (λ t h k. mark_no_word (codes "@") t h k.1.0) (λ t h k. mark_no_word (codes "(") t h k.1.0)

pub behind_type_firm : (home : Home) (endings : Suffixes) (docs ts : List TraitSaid)
    → IsFirm ⊥ TypeWord With (type_word >>= (λ kind. identifier >>= (λ name. body home endings kind name >>= (λ b.
    gives (shape_said (stated_shape home kind name b (docs ++ ts)) ∷ b.defined)))))
behind_type_firm home endings docs ts =
    then_firm type_word _ type_word_firm (λ kind.
    then_firm identifier _ (word_firm IsIdentifier) (λ name.
    given_firm (body home endings kind name) (λ b. _) (body_firm home endings kind name)))

pub shape_with_firm : (home : Home) (endings : Suffixes) (docs : List TraitSaid) → IsFirm ⊥ ShapeStart With (shape_with home endings docs)
shape_with_firm home endings docs =
    front_firm (traits home) _ (traits_firm home) (behind_type_firm home endings docs) type_no_trait

pub shape_firm : (home : Home) (endings : Suffixes) → IsFirm ⊥ ShapeStart With (shape home endings)
shape_firm home endings = documented_firm ShapeStart With (shape_with home endings) (shape_with_firm home endings)

pub apply_item_firm : (home : Home) → IsFirm ⊥ Apply Paren (apply_item home)
apply_item_firm home = given_firm (apply home) (λ said. said ∷ []) (apply_firm home)

-- a word that is no type's, and no `apply`, begins no item
pub no_item : (w : List ℕ) → kind_named w ≡ None → bytes_eq w (codes "apply") ≡ false → AreApart (AWord w) ItemStart
no_item w none other = apart_either _ _ _ (apart_either _ _ _ (λ t h k. mark_no_word (codes "@") t k h.0) (no_type_word w none))
    (words_unlike w (codes "apply") other)

pub shape_no_apply : AreApart ShapeStart Apply
shape_no_apply = either_apart _ _ _ (λ t h k. mark_no_word (codes "@") t h k.0) (turned _ _ (no_type_word (codes "apply") refl))

pub item_firm : (home : Home) (endings : Suffixes) → IsFirm ⊥ ItemStart ItemGoesOn (item home endings)
item_firm home endings = firm_or ShapeStart Apply With Paren (shape home endings) (apply_item home) (shape_firm home endings)
    (apply_item_firm home) shape_no_apply

pub item_apart : AreApart ItemGoesOn ItemStart
item_apart = either_apart _ _ _ (no_item (codes "with") refl refl)
    (apart_either _ _ _ (apart_either _ _ _ (marks_unlike (codes "(") (codes "@") refl) (λ t h k. mark_no_word (codes "(") t h k.1.0))
    (λ t h k. mark_no_word (codes "(") t h k.0))

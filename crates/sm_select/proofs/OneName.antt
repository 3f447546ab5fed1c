-- What is spelled by different words differs: types of shapes, relations and signs are told by their texts.
use Rattle.std.proofs.Common.{◌≡◌, ℕ, List, [], ◌∷◌, Option, Some, None, if◌then◌else◌, bytes_eq, refl, sym, ap, ◌∙◌}
use Rattle.sm_model.specs.Relations.{relation_name}
use Rattle.sm_model.specs.declared.kind.Kind.{Kind}
use Rattle.sm_model.specs.declared.kind.Kind.TheVariants.{Blob, Boolean, Text, Enum, Byte, Short, Integer, IntEnum, Long, Float}
use Rattle.sm_model.specs.declared.kind.Kind.TheVariants.{Double, BigInteger}
use Rattle.sm_model.specs.declared.kind.Kind.TheVariants.{BigDecimal, Timestamp, Document, List as list_kind, Map, Structure, Union}
use Rattle.sm_model.specs.declared.kind.Kind.TheVariants.{Service, Operation, Resource}
use Rattle.sm_model.specs.declared.relation.Relation.{Relation}
use Rattle.sm_model.specs.declared.relation.Relation.TheVariants.{Member, Container, Target, Input, Output, Error}
use Rattle.sm_model.specs.declared.relation.Relation.TheVariants.{Operation as an_operation}
use Rattle.sm_model.specs.declared.relation.Relation.TheVariants.{Resource as a_resource, Identifier, Property}
use Rattle.sm_select.specs.declared.selector.SelectorOp.TheVariants.{Equal, Unequal, Starts, Ends, Contains}
use Rattle.sm_select.specs.declared.tokens.Sign.{Sign}
use Rattle.sm_select.specs.declared.tokens.Sign.TheVariants.{Star, Greater, Smaller, Tilde, OpenNames, CloseNames, OpenPath, ClosePath}
use Rattle.sm_select.specs.declared.tokens.Sign.TheVariants.{OpenIs, OpenNot, OpenTest, Close, Comma, Bar, IdNamespace, IdName, IdMember}
use Rattle.sm_select.specs.declared.tokens.Sign.TheVariants.{TraitBar, Op}
use Rattle.sm_select.specs.Grammar.{type_word}
use Rattle.sm_select.specs.steps.Signs.{sign_text}

-- the first of these that has this name
abbrev named_among : {A : Type 0} → (A → List ℕ) → List ℕ → List A → Option A
named_among name w [] = None
named_among name w (a ∷ more) = if bytes_eq w (name a) then Some a else named_among name w more

abbrev or_this : {A : Type 0} → A → Option A → A
or_this d None = d
or_this d (Some a) = a

one_named : {A : Type 0} (d : A) (name : A → List ℕ) (all : List A) → ((a : A) → named_among name (name a) all ≡ Some a) → (a b : A)
    → name a ≡ name b → a ≡ b
one_named d name all back a b e = ap (or_this d) (sym (back a) ∙ ap (λ w. named_among name w all) e ∙ back b)

abbrev all_types : List (Option Kind)
all_types =
    None ∷ Some Blob ∷ Some Boolean ∷ Some Text ∷ Some Enum ∷ Some Byte ∷ Some Short ∷ Some Integer ∷ Some IntEnum ∷
    Some Long ∷ Some Float ∷ Some Double ∷ Some BigInteger ∷ Some BigDecimal ∷ Some Timestamp ∷ Some Document ∷
    Some list_kind ∷ Some Map ∷ Some Structure ∷ Some Union ∷ Some Service ∷ Some Operation ∷ Some Resource ∷ []

type_back : (k : Option Kind) → named_among type_word (type_word k) all_types ≡ Some k
type_back None = refl
type_back (Some Blob) = refl
type_back (Some Boolean) = refl
type_back (Some Text) = refl
type_back (Some Enum) = refl
type_back (Some Byte) = refl
type_back (Some Short) = refl
type_back (Some Integer) = refl
type_back (Some IntEnum) = refl
type_back (Some Long) = refl
type_back (Some Float) = refl
type_back (Some Double) = refl
type_back (Some BigInteger) = refl
type_back (Some BigDecimal) = refl
type_back (Some Timestamp) = refl
type_back (Some Document) = refl
type_back (Some list_kind) = refl
type_back (Some Map) = refl
type_back (Some Structure) = refl
type_back (Some Union) = refl
type_back (Some Service) = refl
type_back (Some Operation) = refl
type_back (Some Resource) = refl

pub one_type : (j k : Option Kind) → type_word j ≡ type_word k → j ≡ k
one_type j k e = one_named None type_word all_types type_back j k e

abbrev all_relations : List Relation
all_relations =
    Member ∷ Container ∷ Target ∷ Input ∷ Output ∷ Error ∷ an_operation ∷ a_resource ∷ Identifier ∷ Property ∷ []

relation_back : (r : Relation) → named_among relation_name (relation_name r) all_relations ≡ Some r
relation_back Member = refl
relation_back Container = refl
relation_back Target = refl
relation_back Input = refl
relation_back Output = refl
relation_back Error = refl
relation_back an_operation = refl
relation_back a_resource = refl
relation_back Identifier = refl
relation_back Property = refl

pub one_relation : (j k : Relation) → relation_name j ≡ relation_name k → j ≡ k
one_relation j k e = one_named Member relation_name all_relations relation_back j k e

abbrev all_signs : List Sign
all_signs =
    Star ∷ Greater ∷ Smaller ∷ Tilde ∷ OpenNames ∷ CloseNames ∷ OpenPath ∷ ClosePath ∷ OpenIs ∷ OpenNot ∷ OpenTest ∷
    Close ∷ Comma ∷ Bar ∷ IdNamespace ∷ IdName ∷ IdMember ∷ TraitBar ∷ Op Equal ∷ Op Unequal ∷ Op Starts ∷ Op Ends ∷
    Op Contains ∷ []

sign_back : (s : Sign) → named_among sign_text (sign_text s) all_signs ≡ Some s
sign_back Star = refl
sign_back Greater = refl
sign_back Smaller = refl
sign_back Tilde = refl
sign_back OpenNames = refl
sign_back CloseNames = refl
sign_back OpenPath = refl
sign_back ClosePath = refl
sign_back OpenIs = refl
sign_back OpenNot = refl
sign_back OpenTest = refl
sign_back Close = refl
sign_back Comma = refl
sign_back Bar = refl
sign_back IdNamespace = refl
sign_back IdName = refl
sign_back IdMember = refl
sign_back TraitBar = refl
sign_back (Op Equal) = refl
sign_back (Op Unequal) = refl
sign_back (Op Starts) = refl
sign_back (Op Ends) = refl
sign_back (Op Contains) = refl

pub one_sign : (j k : Sign) → sign_text j ≡ sign_text k → j ≡ k
one_sign j k e = one_named Star sign_text all_signs sign_back j k e

-- What is written for a shape is read as it is said.
use Rattle.std.proofs.Common.{◌≡◌, ℕ, Bool, true, false, List, [], ◌∷◌, ◌++◌, None, refl, subst, codes}
use Rattle.sm_ids.specs.Identifier.{IsIdentifier}
use Rattle.sm_tree.specs.Node.{Members}
use Rattle.sm_tree.specs.Same.{AreDistinct}
use Rattle.sm_model.specs.Formed.{HaveForm}
use Rattle.sm_model.specs.Given.{AreNodeFields}
use Rattle.sm_model.specs.Kinds.{MemberForm, any, member_form, kind_name}
use Rattle.sm_model.specs.Properties.{property_forms}
use Rattle.sm_model.specs.Raw.{empty_raw}
use Rattle.sm_model.specs.Said.{MemberSaid, ShapeSaid, shape_said}
use Rattle.sm_model.specs.declared.kind.Kind.{Kind}
use Rattle.sm_model.specs.declared.kind.Kind.TheVariants.{Blob, Boolean, Text, Enum, Byte, Short, Integer, IntEnum, Long, Float}
use Rattle.sm_model.specs.declared.kind.Kind.TheVariants.{Double, BigInteger}
use Rattle.sm_model.specs.declared.kind.Kind.TheVariants.{BigDecimal, Timestamp, Document, List as list_kind, Map, Structure, Union}
use Rattle.sm_model.specs.declared.kind.Kind.TheVariants.{Service, Operation, Resource}
use Rattle.sm_model.proofs.MapFacts.{Each}
use Rattle.sm_idl.specs.Productions.{Tokens, Production, maybe}
use Rattle.sm_idl.specs.Words.{IsWord, identifier}
use Rattle.sm_idl.specs.Nodes.{Home, as_object}
use Rattle.sm_idl.specs.Traits.{traits}
use Rattle.sm_idl.specs.Members.{with_mixins, mixins, enum_member, member, field, members}
use Rattle.sm_idl.specs.Bodies.{Suffixes}
use Rattle.sm_idl.specs.Shapes.{type_word, BodySaid, simple_body, members_body, body, stated_shape, shape_with, shape, apply_item, item}
use Rattle.sm_idl.specs.Written.{NodePairs, trait_lines, field_lines, braced}
use Rattle.sm_idl.specs.WrittenFile.{traits_said, fields_said}
use Rattle.sm_idl.specs.WrittenForms.{written_form}
use Rattle.sm_idl.specs.declared.write.form.WrittenForm.{WrittenForm}
use Rattle.sm_idl.specs.declared.write.form.WrittenForm.TheVariants.{Alone, Names, Targets, Fields}
use Rattle.sm_idl.proofs.TextTokens.{Goes, Spells, goes_white, goes_gives, goes_both, goes_left, goes_missing, goes_documented}
use Rattle.sm_idl.proofs.TextTokens.{goes_joined, goes_flat, flat_three}
use Rattle.sm_idl.proofs.WrittenTokens.{Closed, IsWordText, goes_word, identifier_word}
use Rattle.sm_idl.proofs.TraitsWritten.{IsTraitValue, traits_go}
use Rattle.sm_idl.proofs.MembersWritten.{FoundMember, AreFound, found_lines, found_said, found_names, ReadsMembers, enum_goes, plain_goes}
use Rattle.sm_idl.proofs.MembersWritten.{field_goes, FitsForm, members_go, fits_any, fits_list, fits_map}
use Rattle.sm_idl.proofs.BodiesWritten.{braced_text, service_goes, resource_goes, operation_goes}

-- what stands behind a shape's name, and what it says
abbrev pub body_text : WrittenForm → Kind → List FoundMember → Members → List ℕ
body_text Alone kind found ms = 10 ∷ []
body_text Names kind found ms = braced (found_lines false found)
body_text Targets kind found ms = braced (found_lines true found)
body_text Fields kind found ms = braced (field_lines (property_forms kind) ms)

abbrev pub body_said_by : Home → Kind → List FoundMember → Members → BodySaid
body_said_by home kind found ms = record {
  members = found_said home (written_form kind) found;
  mixins = [];
  properties = as_object (fields_said home (property_forms kind) ms);
  defined = [];
}

abbrev pub with_members : List MemberSaid → BodySaid
with_members said = record { members = said; mixins = []; properties = empty_raw; defined = [] }

no_mixins : (home : Home) {Q : Tokens → Type 0} {s : List ℕ} → Goes Q s → Goes (Spells (mixins home) [] Q) s
no_mixins home h = goes_both (maybe (with_mixins home)) _ None (goes_missing (with_mixins home) (goes_gives [] h))

simple_goes : (home : Home) (found : List FoundMember) (form : WrittenForm) (s : List ℕ) {Q : Tokens → Type 0} → found_names found ≡ []
    → Goes Q s → Goes (Spells (simple_body home) (with_members (found_said home form found)) Q) (10 ∷ s)
simple_goes home [] form s e h = goes_both (mixins home) _ [] (no_mixins home (goes_gives (with_members []) (goes_white 10 refl h)))
simple_goes home (m ∷ ms) form s e h = absurd cc

braced_goes : (home : Home) (written_as : WrittenForm) (targets : Bool) (form : MemberForm) (p : List MemberSaid → Production MemberSaid)
    → ReadsMembers home written_as targets form p → (found : List FoundMember) (s : List ℕ) {Q : Tokens → Type 0} → AreFound found
    → FitsForm form found (found_said home written_as found) → Goes Q s
    → Goes (Spells (members_body home form p) (with_members (found_said home written_as found)) Q) (braced (found_lines targets found) ++ s)
braced_goes home written_as targets form p each_one found s are fits h =
    let said : List MemberSaid = found_said home written_as found in
    goes_flat (braced_text (found_lines targets found) s)
    (goes_white 32 refl
    (goes_both (mixins home) _ []
    (no_mixins home
    (goes_both (members form p) _ said
    (members_go home written_as targets form p each_one found s are fits (goes_gives (with_members said) h))))))

-- what is asked of a body
pub record IsFoundBody (kind : Kind) (found : List FoundMember) (ms : Members) : Type 0 where
  pub form : HaveForm (member_form kind) (found_names found)
  pub members : AreFound found
  pub fields : AreNodeFields (property_forms kind) ms
  pub distinct : AreDistinct ms

no_members_said : (home : Home) (form : WrittenForm) (found : List FoundMember) → found_names found ≡ []
    → [] ≡ found_said home form found
no_members_said home form [] e = refl
no_members_said home form (m ∷ ms) e = absurd cc

abbrev with_fields : Home → Kind → Members → List MemberSaid → BodySaid
with_fields home kind ms said =
    record { members = said; mixins = []; properties = as_object (fields_said home (property_forms kind) ms); defined = [] }

body_goes : (home : Home) (endings : Suffixes) (kind : Kind) (name : List ℕ) (found : List FoundMember) (ms : Members) (s : List ℕ)
    {Q : Tokens → Type 0} → IsFoundBody kind found ms → Goes Q s
    → Goes (Spells (body home endings kind name) (body_said_by home kind found ms) Q) (body_text (written_form kind) kind found ms ++ s)
body_goes home endings Blob name found ms s is h = simple_goes home found Alone s is.form h
body_goes home endings Boolean name found ms s is h = simple_goes home found Alone s is.form h
body_goes home endings Text name found ms s is h = simple_goes home found Alone s is.form h
body_goes home endings Byte name found ms s is h = simple_goes home found Alone s is.form h
body_goes home endings Short name found ms s is h = simple_goes home found Alone s is.form h
body_goes home endings Integer name found ms s is h = simple_goes home found Alone s is.form h
body_goes home endings Long name found ms s is h = simple_goes home found Alone s is.form h
body_goes home endings Float name found ms s is h = simple_goes home found Alone s is.form h
body_goes home endings Double name found ms s is h = simple_goes home found Alone s is.form h
body_goes home endings BigInteger name found ms s is h = simple_goes home found Alone s is.form h
body_goes home endings BigDecimal name found ms s is h = simple_goes home found Alone s is.form h
body_goes home endings Timestamp name found ms s is h = simple_goes home found Alone s is.form h
body_goes home endings Document name found ms s is h = simple_goes home found Alone s is.form h
body_goes home endings Enum name found ms s is h =
    braced_goes home Names false any (enum_member home) (enum_goes home) found s is.members (fits_any home Names found is.form) h
body_goes home endings IntEnum name found ms s is h =
    braced_goes home Names false any (enum_member home) (enum_goes home) found s is.members (fits_any home Names found is.form) h
body_goes home endings list_kind name found ms s is h =
    braced_goes home Targets true (member_form list_kind) (member home (member_form list_kind)) (plain_goes home (member_form list_kind))
    found s is.members (fits_list home Targets found is.form) h
body_goes home endings Map name found ms s is h =
    braced_goes home Targets true (member_form Map) (member home (member_form Map)) (plain_goes home (member_form Map)) found s is.members
    (fits_map home Targets found is.form) h
body_goes home endings Union name found ms s is h =
    braced_goes home Targets true any (member home any) (plain_goes home any) found s is.members (fits_any home Targets found is.form) h
body_goes home endings Structure name found ms s is h =
    braced_goes home Targets true any (field home) (field_goes home) found s is.members (fits_any home Targets found is.form) h
body_goes home endings Operation name found ms s {Q = Q} is h =
    subst (λ said. Goes (Spells (body home endings Operation name) (with_fields home Operation ms said) Q)
    (braced (field_lines (property_forms Operation) ms) ++ s)) (no_members_said home Fields found is.form)
    (operation_goes home endings name ms s is.fields is.distinct h)
body_goes home endings Service name found ms s {Q = Q} is h =
    subst (λ said. Goes (Spells (body home endings Service name) (with_fields home Service ms said) Q)
    (braced (field_lines (property_forms Service) ms) ++ s)) (no_members_said home Fields found is.form)
    (service_goes home ms s is.fields is.distinct h)
body_goes home endings Resource name found ms s {Q = Q} is h =
    subst (λ said. Goes (Spells (body home endings Resource name) (with_fields home Resource ms said) Q)
    (braced (field_lines (property_forms Resource) ms) ++ s)) (no_members_said home Fields found is.form)
    (resource_goes home ms s is.fields is.distinct h)

body_closed : (form : WrittenForm) (kind : Kind) (found : List FoundMember) (ms : Members) (s : List ℕ)
    → Closed (body_text form kind found ms ++ s)
body_closed Alone kind found ms s = refl
body_closed Names kind found ms s = refl
body_closed Targets kind found ms s = refl
body_closed Fields kind found ms s = refl

-- the name of a type
kind_word : (kind : Kind) → IsWordText (kind_name kind)
kind_word Blob = identifier_word (codes "blob") refl
kind_word Boolean = identifier_word (codes "boolean") refl
kind_word Text = identifier_word (codes "string") refl
kind_word Enum = identifier_word (codes "enum") refl
kind_word Byte = identifier_word (codes "byte") refl
kind_word Short = identifier_word (codes "short") refl
kind_word Integer = identifier_word (codes "integer") refl
kind_word IntEnum = identifier_word (codes "intEnum") refl
kind_word Long = identifier_word (codes "long") refl
kind_word Float = identifier_word (codes "float") refl
kind_word Double = identifier_word (codes "double") refl
kind_word BigInteger = identifier_word (codes "bigInteger") refl
kind_word BigDecimal = identifier_word (codes "bigDecimal") refl
kind_word Timestamp = identifier_word (codes "timestamp") refl
kind_word Document = identifier_word (codes "document") refl
kind_word list_kind = identifier_word (codes "list") refl
kind_word Map = identifier_word (codes "map") refl
kind_word Structure = identifier_word (codes "structure") refl
kind_word Union = identifier_word (codes "union") refl
kind_word Service = identifier_word (codes "service") refl
kind_word Operation = identifier_word (codes "operation") refl
kind_word Resource = identifier_word (codes "resource") refl

-- a shape with its traits
abbrev pub found_text : Kind → List ℕ → List FoundMember → Members → NodePairs → List ℕ
found_text kind name found ms ts =
    trait_lines [] ts ++ (kind_name kind ++ codes " " ++ name ++ body_text (written_form kind) kind found ms)

abbrev pub shape_said_by : Home → Kind → List ℕ → List FoundMember → Members → NodePairs → ShapeSaid
shape_said_by home kind name found ms ts = stated_shape home kind name (body_said_by home kind found ms) (traits_said home ts)

pub shape_goes : (home : Home) (endings : Suffixes) (kind : Kind) (name : List ℕ) (found : List FoundMember) (ms : Members)
    (ts : NodePairs) (s : List ℕ) {Q : Tokens → Type 0} → IsIdentifier name → IsFoundBody kind found ms → Each IsTraitValue ts → Goes Q s
    → Goes (Spells (item home endings) (shape_said (shape_said_by home kind name found ms ts) ∷ []) Q)
    (found_text kind name found ms ts ++ s)
shape_goes home endings kind name found ms ts s is_name is are h =
    let text : List ℕ = body_text (written_form kind) kind found ms in
    let stated : List ℕ = kind_name kind ++ codes " " ++ name ++ text in
    goes_left (shape home endings) (apply_item home)
    (goes_documented (shape_with home endings)
    (goes_both (traits home) _ (traits_said home ts)
    (goes_joined (trait_lines [] ts) stated s
    (traits_go home [] ts [] (stated ++ s) tt are
    (goes_flat (flat_three (kind_name kind) (codes " ") name text s)
    (goes_both type_word _ kind
    (goes_word (λ t k. IsWord (kind_name k) t) kind (kind_name kind) (kind_word kind) refl (λ t w. w)
    (goes_white 32 refl
    (goes_both identifier _ name
    (goes_word (λ t w. IsWord w t × IsIdentifier w) name name (identifier_word name is_name)
    (body_closed (written_form kind) kind found ms s) (λ t w. (w, is_name))
    (goes_both (body home endings kind name) _ (body_said_by home kind found ms)
    (body_goes home endings kind name found ms s is
    (goes_gives (shape_said (shape_said_by home kind name found ms ts) ∷ []) h)))))))))))))

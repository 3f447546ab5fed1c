-- Shapes (Smithy 2.0, "Smithy IDL", "Shapes"), each by the form of its type.
use Rattle.std.specs.Prelude.{ℕ, List, [], ◌∷◌, ◌++◌, map, codes}
use Rattle.std.specs.List.{flat_map}
use Rattle.sm_model.specs.Kinds.{kind_name, member_form, MemberForm, any}
use Rattle.sm_model.specs.Properties.{property_forms}
use Rattle.sm_model.specs.Raw.{Raw, empty_raw}
use Rattle.sm_model.specs.Said.{TraitSaid, MemberSaid, ShapeSaid, Said, shape_said}
use Rattle.sm_model.specs.declared.kind.Kind.{Kind}
use Rattle.sm_model.specs.declared.kind.Kind.TheVariants.{Blob, Boolean, Text, Enum, Byte, Short, Integer, IntEnum, Long, Float}
use Rattle.sm_model.specs.declared.kind.Kind.TheVariants.{Double, BigInteger}
use Rattle.sm_model.specs.declared.kind.Kind.TheVariants.{BigDecimal, Timestamp, Document, List as list_kind, Map, Structure, Union}
use Rattle.sm_model.specs.declared.kind.Kind.TheVariants.{Service, Operation, Resource}
use Rattle.sm_model.specs.declared.reference.Ref.{Ref}
use Rattle.sm_idl.specs.Productions.{Production, one, gives, ◌>>=◌, ◌>>◌, ◌or◌, each}
use Rattle.sm_idl.specs.Words.{IsWord, mark, identifier}
use Rattle.sm_idl.specs.Nodes.{Home, Pair, as_object}
use Rattle.sm_idl.specs.Traits.{traits, documented, apply}
use Rattle.sm_idl.specs.Members.{enum_member, member, field, members, mixins}
use Rattle.sm_idl.specs.Bodies.{Suffixes, defined_id, PartSaid, part, property, braced_pairs}

-- the name of a type
abbrev pub type_word : Production Kind
type_word = one (λ t k. IsWord (kind_name k) t)

-- what a shape has beside its id, its type and its traits, and the statements of the structures that it defines in place
pub record BodySaid : Type 0 where
  pub members : List MemberSaid
  pub mixins : List Ref
  pub properties : Raw
  pub defined : List Said

-- simple word [ with ]
abbrev pub simple_body : Home → Production BodySaid
simple_body home = do
  mixed ← mixins home
  gives (record { members = []; mixins = mixed; properties = empty_raw; defined = [] })

-- .. word [ with ] "{" member* "}", for each kind of member
abbrev pub members_body : Home → MemberForm → (List MemberSaid → Production MemberSaid) → Production BodySaid
members_body home form each_member = do
  mixed ← mixins home
  ms ← members form each_member
  gives (record { members = ms; mixins = mixed; properties = empty_raw; defined = [] })

abbrev pub part_pairs : List PartSaid → List Pair
part_pairs ps = map (λ p. (p.name, p.value)) ps

-- "operation" word "{" part* "}"
abbrev pub operation_body : Home → Suffixes → List ℕ → Production BodySaid
operation_body home endings name = do
  mark (codes "{")
  ps ← each (part home endings name)
  mark (codes "}")
  gives (record { members = []; mixins = []; properties = as_object (part_pairs ps); defined = flat_map (λ p. p.defined) ps })

-- ( "service" | "resource" ) word "{" pair* "}"
abbrev pub pairs_body : Home → Kind → Production BodySaid
pairs_body home kind = do
  properties ← braced_pairs (property home (property_forms kind))
  gives (record { members = []; mixins = []; properties = properties; defined = [] })

-- what stands behind the type and the name
abbrev pub body : Home → Suffixes → Kind → List ℕ → Production BodySaid
body home endings Blob name = simple_body home
body home endings Boolean name = simple_body home
body home endings Text name = simple_body home
body home endings Byte name = simple_body home
body home endings Short name = simple_body home
body home endings Integer name = simple_body home
body home endings Long name = simple_body home
body home endings Float name = simple_body home
body home endings Double name = simple_body home
body home endings BigInteger name = simple_body home
body home endings BigDecimal name = simple_body home
body home endings Timestamp name = simple_body home
body home endings Document name = simple_body home
body home endings Enum name = members_body home any (enum_member home)
body home endings IntEnum name = members_body home any (enum_member home)
body home endings list_kind name = members_body home (member_form list_kind) (member home (member_form list_kind))
body home endings Map name = members_body home (member_form Map) (member home (member_form Map))
body home endings Union name = members_body home any (member home any)
body home endings Structure name = members_body home any (field home)
body home endings Operation name = operation_body home endings name
body home endings Service name = pairs_body home Service
body home endings Resource name = pairs_body home Resource

abbrev pub stated_shape : Home → Kind → List ℕ → BodySaid → List TraitSaid → ShapeSaid
stated_shape home kind name b ts = record {
  id = defined_id home name;
  kind = kind;
  members = b.members;
  mixins = b.mixins;
  properties = b.properties;
  traits = ts;
}

-- trait* shape. A structure that an operation defines in place comes behind it
abbrev pub shape_with : Home → Suffixes → List TraitSaid → Production (List Said)
shape_with home endings docs = do
  ts ← traits home
  kind ← type_word
  name ← identifier
  b ← body home endings kind name
  gives (shape_said (stated_shape home kind name b (docs ++ ts)) ∷ b.defined)

abbrev pub shape : Home → Suffixes → Production (List Said)
shape home endings = documented (shape_with home endings)

abbrev pub apply_item : Home → Production (List Said)
apply_item home = do
  said ← apply home
  gives (said ∷ [])

-- item = trait* shape | apply
abbrev pub item : Home → Suffixes → Production (List Said)
item home endings = shape home endings or apply_item home

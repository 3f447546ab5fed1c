-- What holds of the statements of a tree beside what every reader promises (`AreFormed`): references are absolute, and no id of a
-- shape, no key of metadata and no trait of one shape or member is said twice.
use Rattle.std.specs.Prelude.{◌≡◌, ℕ, List, [], ◌∷◌, ◌++◌, map}
use Rattle.sm_model.specs.Formed.{DifferInNames}
use Rattle.sm_model.specs.Raw.{Raw, Raws, RawMembers, raw_leaf, raw_id, raw_list, raw_object, no_raws, raw, no_raw_members, raw_member}
use Rattle.sm_model.specs.References.{absolute}
use Rattle.sm_model.specs.Said.{TraitSaid, MemberSaid, ShapeSaid, Said, metadata_said, shape_said, apply_said}
use Rattle.sm_model.specs.declared.reference.Ref.{Ref}

-- a reference of no file
abbrev pub IsAbsolute : Ref → Type 0
IsAbsolute r = r ≡ absolute r.text r.in_trait

abbrev pub AreAbsolute : List Ref → Type 0
AreAbsolute [] = Unit {0}
AreAbsolute (r ∷ rs) = IsAbsolute r × AreAbsolute rs

abbrev mutual
  pub HasAbsolute : Raw → Type 0
  HasAbsolute (raw_leaf n) = Unit {0}
  HasAbsolute (raw_id r) = IsAbsolute r
  HasAbsolute (raw_list ns) = HaveAbsolute ns
  HasAbsolute (raw_object ms) = MembersHaveAbsolute ms

  pub HaveAbsolute : Raws → Type 0
  HaveAbsolute no_raws = Unit {0}
  HaveAbsolute (raw n ns) = HasAbsolute n × HaveAbsolute ns

  pub MembersHaveAbsolute : RawMembers → Type 0
  MembersHaveAbsolute no_raw_members = Unit {0}
  MembersHaveAbsolute (raw_member k n ms) = HasAbsolute n × MembersHaveAbsolute ms

-- traits of one shape or member: under absolute ids that differ
abbrev pub trait_texts : List TraitSaid → List (List ℕ)
trait_texts ts = map (λ t. t.id.text) ts

abbrev pub TraitsHaveAbsolute : List TraitSaid → Type 0
TraitsHaveAbsolute [] = Unit {0}
TraitsHaveAbsolute (t ∷ ts) = IsAbsolute t.id × HasAbsolute t.value × TraitsHaveAbsolute ts

pub record AreTraitsOfTree (ts : List TraitSaid) : Type 0 where
  pub absolute : TraitsHaveAbsolute ts
  pub differ : DifferInNames (trait_texts ts)

abbrev pub AreMembersOfTree : List MemberSaid → Type 0
AreMembersOfTree [] = Unit {0}
AreMembersOfTree (m ∷ ms) = IsAbsolute m.target × AreTraitsOfTree m.traits × AreMembersOfTree ms

pub record IsShapeOfTree (s : ShapeSaid) : Type 0 where
  pub members : AreMembersOfTree s.members
  pub mixins : AreAbsolute s.mixins
  pub properties : HasAbsolute s.properties
  pub traits : AreTraitsOfTree s.traits

abbrev pub IsOfTree : Said → Type 0
IsOfTree (metadata_said key value) = HasAbsolute value
IsOfTree (shape_said s) = IsShapeOfTree s
IsOfTree (apply_said id traits) = IsAbsolute id × AreTraitsOfTree traits

abbrev pub EachIsOfTree : List Said → Type 0
EachIsOfTree [] = Unit {0}
EachIsOfTree (s ∷ ss) = IsOfTree s × EachIsOfTree ss

-- the ids of shapes, and the keys of metadata
abbrev pub id_of_shape : Said → List (List ℕ)
id_of_shape (metadata_said key value) = []
id_of_shape (shape_said s) = s.id ∷ []
id_of_shape (apply_said id traits) = []

abbrev pub key_of_metadata : Said → List (List ℕ)
key_of_metadata (metadata_said key value) = key ∷ []
key_of_metadata (shape_said s) = []
key_of_metadata (apply_said id traits) = []

abbrev pub names_among : (Said → List (List ℕ)) → List Said → List (List ℕ)
names_among name [] = []
names_among name (s ∷ ss) = name s ++ names_among name ss

pub record AreOfTree (said : List Said) : Type 0 where
  pub each : EachIsOfTree said
  pub ids : DifferInNames (names_among id_of_shape said)
  pub keys : DifferInNames (names_among key_of_metadata said)

-- What every reader of models promises of its statements, and what merging may build on: ids, names and nodes are what they
-- stand for, and a shape has the members and the fields of its type. Whether a reference means a shape, and whether traits
-- and values are right, is judged later.
use Rattle.std.specs.Prelude.{◌≡◌, ◌⊎◌, ℕ, IsUtf8, List, [], ◌∷◌, map, Some}
use Rattle.sm_ids.specs.Identifier.{IsIdentifier}
use Rattle.sm_ids.specs.IdText.{IsIdText}
use Rattle.sm_tree.specs.Node.{Node, null, bool, int, number, text, bytes, tag, opaque, list, object}
use Rattle.sm_tree.specs.Json.{IsJson}
use Rattle.sm_model.specs.Kinds.{MemberForm, none, exactly, any, member_form}
use Rattle.sm_model.specs.Properties.{TypeFields, form_named, property_forms}
use Rattle.sm_model.specs.References.{IsReference, AreReferences, IsShapeId}
use Rattle.sm_model.specs.Raw.{Raw, Raws, RawMembers, raw_leaf, raw_id, raw_list, raw_object, no_raws, raw, no_raw_members, raw_member}
use Rattle.sm_model.specs.Said.{TraitSaid, MemberSaid, ShapeSaid, Said, metadata_said, shape_said, apply_said}
use Rattle.sm_model.specs.declared.property.PropertyForm.{PropertyForm}
use Rattle.sm_model.specs.declared.property.PropertyForm.TheVariants.{Reference, References, NamedReferences, Text, Rename}

-- the name stands among these
abbrev pub StandsAmong : List ℕ → List (List ℕ) → Type 0
StandsAmong k [] = ⊥
StandsAmong k (j ∷ js) = (k ≡ j) ⊎ StandsAmong k js

-- each name differs from the later ones
abbrev pub DifferInNames : List (List ℕ) → Type 0
DifferInNames [] = Unit {0}
DifferInNames (k ∷ ks) = (StandsAmong k ks → ⊥) × DifferInNames ks

abbrev pub raw_names : RawMembers → List (List ℕ)
raw_names no_raw_members = []
raw_names (raw_member k n ms) = k ∷ raw_names ms

-- a leaf is a tree of JSON that has no parts
abbrev pub IsLeaf : Node → Type 0
IsLeaf (list ns) = ⊥
IsLeaf (object ms) = ⊥
IsLeaf null = Unit {0}
IsLeaf (bool b) = Unit {0}
IsLeaf (int z) = IsJson (int z)
IsLeaf (number t) = IsJson (number t)
IsLeaf (text t) = IsJson (text t)
IsLeaf (bytes t) = ⊥
IsLeaf (tag k n) = ⊥
IsLeaf (opaque b) = ⊥

abbrev mutual
  -- leaves are leaves of JSON, ids are references, and the names of an object are UTF-8 and differ
  pub IsRaw : Raw → Type 0
  IsRaw (raw_leaf n) = IsLeaf n
  IsRaw (raw_id r) = IsReference r
  IsRaw (raw_list ns) = AreRaw ns
  IsRaw (raw_object ms) = DifferInNames (raw_names ms) × AreRawMembers ms

  pub AreRaw : Raws → Type 0
  AreRaw no_raws = Unit {0}
  AreRaw (raw n ns) = IsRaw n × AreRaw ns

  pub AreRawMembers : RawMembers → Type 0
  AreRawMembers no_raw_members = Unit {0}
  AreRawMembers (raw_member k n ms) = IsUtf8 k × IsRaw n × AreRawMembers ms

-- a reference in a field
abbrev pub IsRawReference : Raw → Type 0
IsRawReference (raw_id r) = IsReference r
IsRawReference (raw_leaf n) = ⊥
IsRawReference (raw_list ns) = ⊥
IsRawReference (raw_object ms) = ⊥

abbrev pub AreRawReferences : Raws → Type 0
AreRawReferences no_raws = Unit {0}
AreRawReferences (raw n ns) = IsRawReference n × AreRawReferences ns

abbrev pub AreNamedReferences : RawMembers → Type 0
AreNamedReferences no_raw_members = Unit {0}
AreNamedReferences (raw_member k n ms) = IsRawReference n × AreNamedReferences ms

-- new names under ids
abbrev pub IsNewName : Raw → Type 0
IsNewName (raw_leaf n) = (t : List ℕ) × (n ≡ text t) × IsIdentifier t
IsNewName (raw_id r) = ⊥
IsNewName (raw_list ns) = ⊥
IsNewName (raw_object ms) = ⊥

abbrev pub AreNewNames : RawMembers → Type 0
AreNewNames no_raw_members = Unit {0}
AreNewNames (raw_member k n ms) = IsIdText k × IsNewName n × AreNewNames ms

-- a text; a bare id stands for one
abbrev pub IsRawText : Raw → Type 0
IsRawText (raw_leaf n) = (t : List ℕ) × (n ≡ text t)
IsRawText (raw_id r) = Unit {0}
IsRawText (raw_list ns) = ⊥
IsRawText (raw_object ms) = ⊥

-- the node is of this form
abbrev pub HasPropertyForm : PropertyForm → Raw → Type 0
HasPropertyForm Reference n = IsRawReference n
HasPropertyForm References n = (ns : Raws) × (n ≡ raw_list ns) × AreRawReferences ns
HasPropertyForm NamedReferences n = (ms : RawMembers) × (n ≡ raw_object ms) × AreNamedReferences ms
HasPropertyForm Text n = IsRawText n
HasPropertyForm Rename n = (ms : RawMembers) × (n ≡ raw_object ms) × AreNewNames ms

-- each pair is a field of the type
abbrev pub AreFields : TypeFields → RawMembers → Type 0
AreFields fs no_raw_members = Unit {0}
AreFields fs (raw_member k n ms) = ((form : PropertyForm) × (form_named k fs ≡ Some form) × HasPropertyForm form n) × AreFields fs ms

-- the body of an operation, service or resource; any other type has an object without pairs
pub record AreProperties (fs : TypeFields) (n : Raw) : Type 0 where
  pub pairs : RawMembers
  pub is_object : n ≡ raw_object pairs
  pub is_raw : IsRaw n
  pub fields : AreFields fs pairs

abbrev pub AreTraits : List TraitSaid → Type 0
AreTraits [] = Unit {0}
AreTraits (t ∷ ts) = IsReference t.id × IsRaw t.value × AreTraits ts

abbrev pub AreStatedMembers : List MemberSaid → Type 0
AreStatedMembers [] = Unit {0}
AreStatedMembers (m ∷ ms) = IsIdentifier m.name × IsReference m.target × AreTraits m.traits × AreStatedMembers ms

abbrev pub stated_names : List MemberSaid → List (List ℕ)
stated_names ms = map (λ m. m.name) ms

-- the members' names are those of the type
abbrev pub HaveForm : MemberForm → List (List ℕ) → Type 0
HaveForm none names = names ≡ []
HaveForm (exactly wanted) names = names ≡ wanted
HaveForm any names = DifferInNames names

pub record IsFormedShape (s : ShapeSaid) : Type 0 where
  pub id : IsShapeId s.id
  pub names : HaveForm (member_form s.kind) (stated_names s.members)
  pub members : AreStatedMembers s.members
  pub mixins : AreReferences s.mixins
  pub properties : AreProperties (property_forms s.kind) s.properties
  pub traits : AreTraits s.traits

-- a statement as readers give it
abbrev pub IsFormed : Said → Type 0
IsFormed (metadata_said key value) = IsUtf8 key × IsRaw value
IsFormed (shape_said s) = IsFormedShape s
IsFormed (apply_said id traits) = IsReference id × AreTraits traits

abbrev pub AreFormed : List Said → Type 0
AreFormed [] = Unit {0}
AreFormed (s ∷ ss) = IsFormed s × AreFormed ss

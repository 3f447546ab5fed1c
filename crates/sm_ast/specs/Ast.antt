-- The statements that a tree says as a model of the JSON AST (Smithy 2.0, "JSON AST"): by cases on the tree, row by row of
-- the layout. Statements stand in the order of the pairs.
use Rattle.std.specs.Prelude.{◌≡◌, ◌⊎◌, ℕ, false, true, List, [], ◌∷◌, ◌++◌, Some, None, codes}
use Rattle.sm_ids.specs.Identifier.{IsIdentifier}
use Rattle.sm_ids.specs.IdText.{IsIdText}
use Rattle.sm_tree.specs.Node.{Node, Nodes, Members, text, list, object, no_nodes, node, no_members, member}
use Rattle.sm_tree.specs.Same.{HasPair, HasName, HasDistinctNames}
use Rattle.sm_model.specs.declared.reference.Ref.{Ref}
use Rattle.sm_model.specs.declared.property.PropertyForm.{PropertyForm}
use Rattle.sm_model.specs.declared.property.PropertyForm.TheVariants.{Reference, References, NamedReferences, Text, Rename}
use Rattle.sm_model.specs.Kinds.{MemberForm, none, exactly, any, member_form, kind_name}
use Rattle.sm_model.specs.Properties.{TypeFields, form_named, property_forms}
use Rattle.sm_model.specs.References.{absolute, IsShapeId}
use Rattle.sm_model.specs.Raw.{Raw, Raws, RawMembers, raw_leaf, raw_id, raw_list, raw_object, no_raws, raw, no_raw_members, raw_member}
use Rattle.sm_model.specs.Raw.{raw_of}
use Rattle.sm_model.specs.Said.{TraitSaid, MemberSaid, ShapeSaid, Said, metadata_said, shape_said, apply_said}
use Rattle.sm_ast.specs.declared.layout.ShapeType.TheVariants.{Defined, Applied}
use Rattle.sm_ast.specs.declared.layout.FieldForm.{FieldForm}
use Rattle.sm_ast.specs.Layout.{FieldForms, layout_of, field_named, smithy_name, metadata_name, shapes_name}
use Rattle.sm_ast.specs.Layout.{target_name, traits_name, type_name, members_name, mixins_name}

-- each pair's name is the name of a field
abbrev pub AreFieldsOf : FieldForms → Members → Type 0
AreFieldsOf fs no_members = Unit {0}
AreFieldsOf fs (member k n ms) = ((form : FieldForm) × (field_named k fs ≡ Some form)) × AreFieldsOf fs ms

-- what stands under a name, where something does; else this is nothing
abbrev pub OrNothing : {X : Type 0} → List ℕ → Members → (Node → List X → Type 0) → List X → Type 0
OrNothing name ms Says xs = ((n : Node) × HasPair name n ms × Says n xs) ⊎ ((HasName name ms → ⊥) × (xs ≡ []))

-- {"target": id}
abbrev pub ReferenceSays : Node → Ref → Type 0
ReferenceSays n r = (id : List ℕ) × (n ≡ object (member target_name (text id) no_members)) × IsIdText id × (r ≡ absolute id false)

abbrev pub EntriesSay : Nodes → List Ref → Type 0
EntriesSay no_nodes rs = rs ≡ []
EntriesSay (node n ns) rs = (r : Ref) × (more : List Ref) × (rs ≡ r ∷ more) × ReferenceSays n r × EntriesSay ns more

-- a list of references
abbrev pub ReferencesSay : Node → List Ref → Type 0
ReferencesSay n rs = (ns : Nodes) × (n ≡ list ns) × EntriesSay ns rs

-- nodes under the ids of traits
abbrev pub TraitPairsSay : Members → List TraitSaid → Type 0
TraitPairsSay no_members ts = ts ≡ []
TraitPairsSay (member k n ms) ts =
    (more : List TraitSaid) × IsIdText k × (ts ≡ record { id = absolute k true; value = raw_of n } ∷ more) × TraitPairsSay ms more

abbrev pub TraitsSay : Node → List TraitSaid → Type 0
TraitsSay n ts = (ms : Members) × (n ≡ object ms) × TraitPairsSay ms ts

-- {"target": id, "traits": {..}}, in either order, the second where there are any
pub record MemberParts (ms : Members) (name : List ℕ) (said : MemberSaid) : Type 0 where
  pub id : List ℕ
  pub target : HasPair target_name (text id) ms
  pub is_id : IsIdText id
  pub fields : (k : List ℕ) → HasName k ms → (k ≡ target_name) ⊎ (k ≡ traits_name)
  pub name_is : said.name ≡ name
  pub target_is : said.target ≡ absolute id false
  pub traits : OrNothing traits_name ms TraitsSay said.traits

abbrev pub AstMember : List ℕ → Node → MemberSaid → Type 0
AstMember name n said = (ms : Members) × (n ≡ object ms) × MemberParts ms name said

-- members under their names, in the order of the pairs
abbrev pub MemberPairsSay : Members → List MemberSaid → Type 0
MemberPairsSay no_members said = said ≡ []
MemberPairsSay (member k n ms) said =
    (m : MemberSaid) × (more : List MemberSaid) × (said ≡ m ∷ more) × IsIdentifier k × AstMember k n m × MemberPairsSay ms more

abbrev pub MembersObjectSays : Node → List MemberSaid → Type 0
MembersObjectSays n said = (ms : Members) × (n ≡ object ms) × MemberPairsSay ms said

-- the members that are fields of the shape, in the order of the type
abbrev pub NamedMembersSay : List (List ℕ) → Members → List MemberSaid → Type 0
NamedMembersSay [] ms said = said ≡ []
NamedMembersSay (k ∷ ks) ms said =
    (n : Node) × (m : MemberSaid) × (more : List MemberSaid) × (said ≡ m ∷ more) × HasPair k n ms × AstMember k n m
    × NamedMembersSay ks ms more

abbrev pub AstMembers : MemberForm → Members → List MemberSaid → Type 0
AstMembers none ms said = said ≡ []
AstMembers (exactly names) ms said = NamedMembersSay names ms said
AstMembers any ms said = OrNothing members_name ms MembersObjectSays said

-- a field of an operation, service or resource
abbrev pub RawReferenceSays : Node → Raw → Type 0
RawReferenceSays n said = (r : Ref) × ReferenceSays n r × (said ≡ raw_id r)

abbrev pub RawReferencesSay : Nodes → Raws → Type 0
RawReferencesSay no_nodes said = said ≡ no_raws
RawReferencesSay (node n ns) said = (r : Raw) × (more : Raws) × (said ≡ raw r more) × RawReferenceSays n r × RawReferencesSay ns more

abbrev pub NamedReferencesSay : Members → RawMembers → Type 0
NamedReferencesSay no_members said = said ≡ no_raw_members
NamedReferencesSay (member k n ms) said =
    (r : Raw) × (more : RawMembers) × (said ≡ raw_member k r more) × RawReferenceSays n r × NamedReferencesSay ms more

abbrev pub NewNamesSay : Members → RawMembers → Type 0
NewNamesSay no_members said = said ≡ no_raw_members
NewNamesSay (member k n ms) said =
    (name : List ℕ) × (more : RawMembers) × IsIdText k × (n ≡ text name) × IsIdentifier name
    × (said ≡ raw_member k (raw_leaf (text name)) more)
    × NewNamesSay ms more

abbrev pub PropertySays : PropertyForm → Node → Raw → Type 0
PropertySays Reference n said = RawReferenceSays n said
PropertySays References n said = (ns : Nodes) × (entries : Raws) × (n ≡ list ns) × (said ≡ raw_list entries) × RawReferencesSay ns entries
PropertySays NamedReferences n said =
    (ms : Members) × (pairs : RawMembers) × (n ≡ object ms) × (said ≡ raw_object pairs) × NamedReferencesSay ms pairs
PropertySays Text n said = (t : List ℕ) × (n ≡ text t) × (said ≡ raw_leaf (text t))
PropertySays Rename n said = (ms : Members) × (pairs : RawMembers) × (n ≡ object ms) × (said ≡ raw_object pairs) × NewNamesSay ms pairs

-- of a shape's pairs those that are such fields, in the order of the pairs
abbrev pub PropertyPairsSay : TypeFields → Members → RawMembers → Type 0
PropertyPairsSay fs no_members said = said ≡ no_raw_members
PropertyPairsSay fs (member k n ms) said = ((form_named k fs ≡ None) × PropertyPairsSay fs ms said)
    ⊎ ((form : PropertyForm) × (r : Raw) × (more : RawMembers) × (form_named k fs ≡ Some form) × PropertySays form n r
    × (said ≡ raw_member k r more) × PropertyPairsSay fs ms more)

abbrev pub PropertiesSay : TypeFields → Members → Raw → Type 0
PropertiesSay fs ms said = (pairs : RawMembers) × (said ≡ raw_object pairs) × PropertyPairsSay fs ms pairs

-- a shape of this type
pub record ShapeParts (k : List ℕ) (ms : Members) (said : ShapeSaid) : Type 0 where
  pub type : HasPair type_name (text (kind_name said.kind)) ms
  pub fields : AreFieldsOf (layout_of (Defined said.kind)) ms
  pub id : said.id ≡ k
  pub is_shape : IsShapeId k
  pub members : AstMembers (member_form said.kind) ms said.members
  pub mixins : OrNothing mixins_name ms ReferencesSay said.mixins
  pub properties : PropertiesSay (property_forms said.kind) ms said.properties
  pub traits : OrNothing traits_name ms TraitsSay said.traits

-- traits that are applied to a shape or member
pub record ApplyParts (k : List ℕ) (ms : Members) (ts : List TraitSaid) : Type 0 where
  pub type : HasPair type_name (text (codes "apply")) ms
  pub fields : AreFieldsOf (layout_of Applied) ms
  pub is_id : IsIdText k
  pub node : Node
  pub traits : HasPair traits_name node ms
  pub says : TraitsSay node ts

abbrev pub AstShape : List ℕ → Node → Said → Type 0
AstShape k n (metadata_said key value) = ⊥
AstShape k n (shape_said said) = (ms : Members) × (n ≡ object ms) × ShapeParts k ms said
AstShape k n (apply_said r ts) = (ms : Members) × (n ≡ object ms) × (r ≡ absolute k false) × ApplyParts k ms ts

abbrev pub ShapePairsSay : Members → List Said → Type 0
ShapePairsSay no_members said = said ≡ []
ShapePairsSay (member k n ms) said = (s : Said) × (more : List Said) × (said ≡ s ∷ more) × AstShape k n s × ShapePairsSay ms more

abbrev pub MetadataPairsSay : Members → List Said → Type 0
MetadataPairsSay no_members said = said ≡ []
MetadataPairsSay (member k n ms) said = (more : List Said) × (said ≡ metadata_said k (raw_of n) ∷ more) × MetadataPairsSay ms more

-- a pair of the top object
abbrev pub TopPairSays : List ℕ → Node → List Said → Type 0
TopPairSays k n said = ((k ≡ smithy_name) × ((n ≡ text (codes "2.0")) ⊎ (n ≡ text (codes "2"))) × (said ≡ []))
    ⊎ ((k ≡ metadata_name) × (ms : Members) × (n ≡ object ms) × MetadataPairsSay ms said)
    ⊎ ((k ≡ shapes_name) × (ms : Members) × (n ≡ object ms) × ShapePairsSay ms said)

abbrev pub TopPairsSay : Members → List Said → Type 0
TopPairsSay no_members said = said ≡ []
TopPairsSay (member k n ms) said =
    (first more : List Said) × (said ≡ first ++ more) × TopPairSays k n first × TopPairsSay ms more

-- the statements of a whole tree, in none of whose objects a name stands twice
pub record Ast (said : List Said) (n : Node) : Type 0 where
  pub distinct : HasDistinctNames n
  pub pairs : Members
  pub is_object : n ≡ object pairs
  pub has_version : HasName smithy_name pairs
  pub says : TopPairsSay pairs said

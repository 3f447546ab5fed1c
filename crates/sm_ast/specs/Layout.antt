-- The layout of the JSON AST, row by row: Smithy 2.0 ("JSON AST"). Which fields an object has, and what stands in each.
use Rattle.std.specs.Prelude.{ℕ, List, [], ◌∷◌, ◌++◌, map, Option, Some, None, if◌then◌else◌, codes}
use Rattle.std.specs.Str.{bytes_eq}
use Rattle.sm_model.specs.Kinds.{MemberForm, none, exactly, any, member_form, kind_name}
use Rattle.sm_model.specs.Properties.{TypeFields, property_forms}
use Rattle.sm_model.specs.declared.kind.Kind.{Kind}
use Rattle.sm_model.specs.declared.kind.Kind.TheVariants.{Blob, Boolean, Text, Enum, Byte, Short, Integer, IntEnum, Long, Float, Double}
use Rattle.sm_model.specs.declared.kind.Kind.TheVariants.{BigInteger}
use Rattle.sm_model.specs.declared.kind.Kind.TheVariants.{BigDecimal, Timestamp, Document, List as list_kind, Map, Structure, Union}
use Rattle.sm_model.specs.declared.kind.Kind.TheVariants.{Service, Operation, Resource}
use Rattle.sm_ast.specs.declared.layout.ShapeType.{ShapeType}
use Rattle.sm_ast.specs.declared.layout.ShapeType.TheVariants.{Defined, Applied}
use Rattle.sm_ast.specs.declared.layout.FieldForm.{FieldForm}
use Rattle.sm_ast.specs.declared.layout.FieldForm.TheVariants.{TypeName, OneMember, AllMembers, Property, Mixins, Traits}

-- the fields of the top object, of a reference, and of a member
abbrev pub smithy_name : List ℕ
smithy_name = codes "smithy"

abbrev pub metadata_name : List ℕ
metadata_name = codes "metadata"

abbrev pub shapes_name : List ℕ
shapes_name = codes "shapes"

abbrev pub target_name : List ℕ
target_name = codes "target"

abbrev pub traits_name : List ℕ
traits_name = codes "traits"

abbrev pub type_name : List ℕ
type_name = codes "type"

abbrev pub members_name : List ℕ
members_name = codes "members"

abbrev pub mixins_name : List ℕ
mixins_name = codes "mixins"

abbrev pub FieldForms : Type 0
FieldForms = List (List ℕ × FieldForm)

abbrev pub member_fields : MemberForm → FieldForms
member_fields none = []
member_fields (exactly names) = map (λ name. (name, OneMember)) names
member_fields any = (members_name, AllMembers) ∷ []

abbrev pub property_fields : TypeFields → FieldForms
property_fields fs = map (λ f. (f.0, Property f.1)) fs

-- mixins on operations, services and resources are left out of this profile
abbrev pub mixin_fields : Kind → FieldForms
mixin_fields Service = []
mixin_fields Operation = []
mixin_fields Resource = []
mixin_fields list_kind = (mixins_name, Mixins) ∷ []
mixin_fields Map = (mixins_name, Mixins) ∷ []
mixin_fields Structure = (mixins_name, Mixins) ∷ []
mixin_fields Union = (mixins_name, Mixins) ∷ []
mixin_fields Enum = (mixins_name, Mixins) ∷ []
mixin_fields IntEnum = (mixins_name, Mixins) ∷ []
mixin_fields Blob = (mixins_name, Mixins) ∷ []
mixin_fields Boolean = (mixins_name, Mixins) ∷ []
mixin_fields Text = (mixins_name, Mixins) ∷ []
mixin_fields Byte = (mixins_name, Mixins) ∷ []
mixin_fields Short = (mixins_name, Mixins) ∷ []
mixin_fields Integer = (mixins_name, Mixins) ∷ []
mixin_fields Long = (mixins_name, Mixins) ∷ []
mixin_fields Float = (mixins_name, Mixins) ∷ []
mixin_fields Double = (mixins_name, Mixins) ∷ []
mixin_fields BigInteger = (mixins_name, Mixins) ∷ []
mixin_fields BigDecimal = (mixins_name, Mixins) ∷ []
mixin_fields Timestamp = (mixins_name, Mixins) ∷ []
mixin_fields Document = (mixins_name, Mixins) ∷ []

-- the fields of the type, then `traits`, and in reading `mixins`; before them stands `type`
abbrev pub shape_fields : Kind → FieldForms
shape_fields k = member_fields (member_form k) ++ property_fields (property_forms k) ++ (traits_name, Traits) ∷ mixin_fields k

abbrev pub layout_of : ShapeType → FieldForms
layout_of (Defined k) = (type_name, TypeName) ∷ shape_fields k
layout_of Applied = (type_name, TypeName) ∷ (traits_name, Traits) ∷ []

-- the form of the field with this name
abbrev pub field_named : List ℕ → FieldForms → Option FieldForm
field_named name [] = None
field_named name (f ∷ fs) = if bytes_eq name f.0 then Some f.1 else field_named name fs

-- what must be there beside `type`: the members of lists and maps, and the traits that are applied
abbrev pub needed_members : MemberForm → List (List ℕ)
needed_members none = []
needed_members (exactly names) = names
needed_members any = []

abbrev pub needed : ShapeType → List (List ℕ)
needed (Defined k) = needed_members (member_form k)
needed Applied = traits_name ∷ []

-- every type, and the one with this name
abbrev pub all_kinds : List Kind
all_kinds = Blob ∷ Boolean ∷ Text ∷ Enum ∷ Byte ∷ Short ∷ Integer ∷ IntEnum ∷ Long ∷ Float ∷ Double ∷ BigInteger ∷ BigDecimal ∷ Timestamp
    ∷ Document ∷ list_kind ∷ Map ∷ Structure ∷ Union ∷ Service ∷ Operation ∷ Resource ∷ []

abbrev pub kind_among : List ℕ → List Kind → Option ShapeType
kind_among name [] = None
kind_among name (k ∷ ks) = if bytes_eq name (kind_name k) then Some (Defined k) else kind_among name ks

abbrev pub type_named : List ℕ → Option ShapeType
type_named name = if bytes_eq name (codes "apply") then Some Applied else kind_among name all_kinds

-- The fields of operations, services and resources: Smithy 2.0 ("Service types"; "JSON AST").
use Rattle.std.specs.Prelude.{ℕ, List, [], ◌∷◌, Option, Some, None, if◌then◌else◌, nat_eq, codes}
use Rattle.std.specs.Cmp.Lexicographic.{pointwise}
use Rattle.sm_model.specs.declared.kind.Kind.{Kind}
use Rattle.sm_model.specs.declared.kind.Kind.TheVariants.{Blob, Boolean, Text as text_kind, Enum, Byte, Short, Integer, IntEnum, Long}
use Rattle.sm_model.specs.declared.kind.Kind.TheVariants.{Float, Double}
use Rattle.sm_model.specs.declared.kind.Kind.TheVariants.{BigInteger, BigDecimal, Timestamp, Document, List as list_kind, Map, Structure}
use Rattle.sm_model.specs.declared.kind.Kind.TheVariants.{Union}
use Rattle.sm_model.specs.declared.kind.Kind.TheVariants.{Service, Operation, Resource}
use Rattle.sm_model.specs.declared.property.PropertyForm.{PropertyForm}
use Rattle.sm_model.specs.declared.property.PropertyForm.TheVariants.{Reference, References, NamedReferences, Text, Rename}

-- the fields of a type by their names, in the order in which they are written
abbrev pub TypeFields : Type 0
TypeFields = List (List ℕ × PropertyForm)

abbrev pub operation_fields : TypeFields
operation_fields = (codes "input", Reference) ∷ (codes "output", Reference) ∷ (codes "errors", References) ∷ []

abbrev pub service_fields : TypeFields
service_fields = (codes "version", Text) ∷ (codes "operations", References) ∷ (codes "resources", References) ∷ (codes "errors", References)
    ∷ (codes "rename", Rename) ∷ []

abbrev pub resource_fields : TypeFields
resource_fields = (codes "identifiers", NamedReferences) ∷ (codes "properties", NamedReferences) ∷ (codes "create", Reference)
    ∷ (codes "put", Reference) ∷ (codes "read", Reference) ∷ (codes "update", Reference) ∷ (codes "delete", Reference)
    ∷ (codes "list", Reference) ∷ (codes "operations", References) ∷ (codes "collectionOperations", References)
    ∷ (codes "resources", References) ∷ []

abbrev pub property_forms : Kind → TypeFields
property_forms Operation = operation_fields
property_forms Service = service_fields
property_forms Resource = resource_fields
property_forms list_kind = []
property_forms Map = []
property_forms Structure = []
property_forms Union = []
property_forms Enum = []
property_forms IntEnum = []
property_forms Blob = []
property_forms Boolean = []
property_forms text_kind = []
property_forms Byte = []
property_forms Short = []
property_forms Integer = []
property_forms Long = []
property_forms Float = []
property_forms Double = []
property_forms BigInteger = []
property_forms BigDecimal = []
property_forms Timestamp = []
property_forms Document = []

-- the fields that each shape of a type has
abbrev pub needed_fields : Kind → List (List ℕ)
needed_fields Operation = codes "input" ∷ codes "output" ∷ []
needed_fields Service = []
needed_fields Resource = []
needed_fields list_kind = []
needed_fields Map = []
needed_fields Structure = []
needed_fields Union = []
needed_fields Enum = []
needed_fields IntEnum = []
needed_fields Blob = []
needed_fields Boolean = []
needed_fields text_kind = []
needed_fields Byte = []
needed_fields Short = []
needed_fields Integer = []
needed_fields Long = []
needed_fields Float = []
needed_fields Double = []
needed_fields BigInteger = []
needed_fields BigDecimal = []
needed_fields Timestamp = []
needed_fields Document = []

-- what stands in the field of this name
abbrev pub form_named : List ℕ → TypeFields → Option PropertyForm
form_named name [] = None
form_named name (f ∷ fs) = if pointwise nat_eq name f.0 then Some f.1 else form_named name fs

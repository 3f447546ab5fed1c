-- The names of the types of shapes, and which members a shape of each type has: Smithy 2.0 ("Simple types", "Aggregate
-- types", "Service types").
use Rattle.std.specs.Prelude.{ℕ, List, [], ◌∷◌, codes}
use Rattle.sm_model.specs.declared.kind.Kind.{Kind}
use Rattle.sm_model.specs.declared.kind.Kind.TheVariants.{Blob, Boolean, Text, Enum, Byte, Short, Integer, IntEnum, Long, Float, Double}
use Rattle.sm_model.specs.declared.kind.Kind.TheVariants.{BigInteger}
use Rattle.sm_model.specs.declared.kind.Kind.TheVariants.{BigDecimal, Timestamp, Document, List as list_kind, Map, Structure, Union}
use Rattle.sm_model.specs.declared.kind.Kind.TheVariants.{Service, Operation, Resource}

-- the name of a type, as the IDL and the AST write it
abbrev pub kind_name : Kind → List ℕ
kind_name Blob = codes "blob"
kind_name Boolean = codes "boolean"
kind_name Text = codes "string"
kind_name Enum = codes "enum"
kind_name Byte = codes "byte"
kind_name Short = codes "short"
kind_name Integer = codes "integer"
kind_name IntEnum = codes "intEnum"
kind_name Long = codes "long"
kind_name Float = codes "float"
kind_name Double = codes "double"
kind_name BigInteger = codes "bigInteger"
kind_name BigDecimal = codes "bigDecimal"
kind_name Timestamp = codes "timestamp"
kind_name Document = codes "document"
kind_name list_kind = codes "list"
kind_name Map = codes "map"
kind_name Structure = codes "structure"
kind_name Union = codes "union"
kind_name Service = codes "service"
kind_name Operation = codes "operation"
kind_name Resource = codes "resource"

-- which members a shape has: none, exactly these in this order, or any
pub data MemberForm : Type 0 where
  none : MemberForm
  exactly : List (List ℕ) → MemberForm
  any : MemberForm

abbrev pub member_form : Kind → MemberForm
member_form list_kind = exactly (codes "member" ∷ [])
member_form Map = exactly (codes "key" ∷ codes "value" ∷ [])
member_form Structure = any
member_form Union = any
member_form Enum = any
member_form IntEnum = any
member_form Blob = none
member_form Boolean = none
member_form Text = none
member_form Byte = none
member_form Short = none
member_form Integer = none
member_form Long = none
member_form Float = none
member_form Double = none
member_form BigInteger = none
member_form BigDecimal = none
member_form Timestamp = none
member_form Document = none
member_form Service = none
member_form Operation = none
member_form Resource = none

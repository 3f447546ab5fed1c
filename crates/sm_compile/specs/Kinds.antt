-- The kinds of shapes in a table, and which kinds of shapes values have (Smithy 2.0, "Simple types", "Aggregate types").
use Rattle.std.specs.Prelude.{◌&&◌, ℕ, Bool, not, true, false, List, [], cond}
use Rattle.sm_model.specs.Graphs.{ShapeEntry}
use Rattle.sm_model.specs.declared.kind.Kind.{Kind}
use Rattle.sm_model.specs.declared.kind.Kind.TheVariants as model
use Rattle.sm_shapes.specs.declared.kinds.ShapeKind.{ShapeKind}
use Rattle.sm_shapes.specs.declared.kinds.ShapeKind.TheVariants as table

-- a type whose values aren't carried is left out
abbrev pub table_kind : Kind → ShapeKind
table_kind model.Blob = table.Blob
table_kind model.Boolean = table.Boolean
table_kind model.Text = table.Text
table_kind model.Enum = table.Enum
table_kind model.Byte = table.Byte
table_kind model.Short = table.Short
table_kind model.Integer = table.Integer
table_kind model.IntEnum = table.IntEnum
table_kind model.Long = table.Long
table_kind model.Timestamp = table.Timestamp
table_kind model.List = table.List
table_kind model.Map = table.Map
table_kind model.Structure = table.Structure
table_kind model.Union = table.Union
table_kind model.Float = table.LeftOut
table_kind model.Double = table.LeftOut
table_kind model.BigInteger = table.LeftOut
table_kind model.BigDecimal = table.LeftOut
table_kind model.Document = table.LeftOut
table_kind model.Service = table.LeftOut
table_kind model.Operation = table.LeftOut
table_kind model.Resource = table.LeftOut

abbrev pub is_left_out : ShapeKind → Bool
is_left_out table.LeftOut = true
is_left_out kind = false

-- a shape that has values: any but a service, an operation and a resource
abbrev pub has_values : Kind → Bool
has_values model.Service = false
has_values model.Operation = false
has_values model.Resource = false
has_values kind = true

-- whose values are texts; whole numbers; and which of the two bounds counts
abbrev pub is_text_kind : Kind → Bool
is_text_kind model.Text = true
is_text_kind model.Enum = true
is_text_kind kind = false

abbrev pub is_whole_kind : Kind → Bool
is_whole_kind model.Byte = true
is_whole_kind model.Short = true
is_whole_kind model.Integer = true
is_whole_kind model.IntEnum = true
is_whole_kind model.Long = true
is_whole_kind kind = false

abbrev pub has_length : Kind → Bool
has_length model.Text = true
has_length model.Enum = true
has_length model.Blob = true
has_length model.List = true
has_length model.Map = true
has_length kind = false

-- at whose members values stand; the members of enums name values
abbrev pub has_value_members : Kind → Bool
has_value_members model.List = true
has_value_members model.Map = true
has_value_members model.Structure = true
has_value_members model.Union = true
has_value_members kind = false

abbrev pub members_of_kind : Kind → List (List ℕ) → List (List ℕ)
members_of_kind kind ms = cond (has_value_members kind) ms []

abbrev pub value_members : ShapeEntry → List (List ℕ)
value_members s = members_of_kind s.kind s.members

-- what the member of a shape of this kind may target: a shape that has values; the prelude's unit in unions and enums alone, and those of
-- enums nothing else
abbrev pub may_target : Kind → Bool → Kind → Bool
may_target model.Enum is_unit kind = is_unit
may_target model.IntEnum is_unit kind = is_unit
may_target model.Union is_unit kind = has_values kind
may_target any is_unit kind = has_values kind && not is_unit

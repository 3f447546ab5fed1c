-- A table as data, without memory: what it says of its shapes and members, by number. Contracts compare tables by these words.
use Rattle.std.specs.Prelude.{ℕ, ℤ, Bool, false, ◌==◌, cond, List, [], ◌∷◌, length, Option, Some, None, unwrap_or, slice_get}
use Rattle.std.specs.Str.{bytes_eq}
use Rattle.sm_tree.specs.Node.{Node}
use Rattle.sm_time.specs.declared.format.Format.{Format}
use Rattle.sm_shapes.specs.Values.{Val}
use Rattle.sm_shapes.specs.declared.kinds.ShapeKind.{ShapeKind}
use Rattle.sm_shapes.specs.declared.kinds.ShapeKind.TheVariants.{LeftOut}

-- the bounds of `length` or `range`, the number of a pattern, and the values of an enum or an intEnum
pub record ConstraintData : Type 0 where
  pub min : Option ℤ
  pub max : Option ℤ
  pub pattern : Option ℕ
  pub texts : List (List ℕ)
  pub numbers : List ℤ

-- where HTTP carries a member (Smithy 2.0, "HTTP binding traits")
pub data BindingData : Type 0 where
  label : BindingData
  query : List ℕ → BindingData
  query_params : BindingData
  header : List ℕ → BindingData
  prefix_headers : List ℕ → BindingData
  payload : BindingData
  response_code : BindingData

-- a shape: a list has one member, a map its key and its value, and an enum none
pub record ShapeData : Type 0 where
  pub kind : ShapeKind
  -- in model order
  pub members : List ℕ
  -- in the byte order of their names, and of the names that they have where JSON names are looked at
  pub by_name : List ℕ
  pub by_json_name : List ℕ
  -- those that are required or may have a default, in model order
  pub needed : List ℕ
  pub constraints : ConstraintData
  pub unique : Bool
  pub sparse : Bool
  -- the prelude's `Unit`
  pub unit : Bool
  pub format : Option Format
  pub media_type : Option (List ℕ)

-- A member, which stands in the shape that it names. Its constraints, format and media type are those that count: a trait on
-- the member takes the place of its target's. `default_node` is the node of the trait `default` where all that doesn't need a
-- reader holds of it, `default` the value where it counts
pub record MemberData : Type 0 where
  pub shape : ℕ
  pub name : List ℕ
  pub json_name : Option (List ℕ)
  pub target : ℕ
  pub required : Bool
  pub constraints : ConstraintData
  pub format : Option Format
  pub media_type : Option (List ℕ)
  pub binding : Option BindingData
  pub default_node : Option Node
  pub default : Option Val

-- a shape and a member is named by its place; a pattern's number is the one in a store
pub record TableData : Type 0 where
  pub shapes : List ShapeData
  pub members : List MemberData
  pub patterns : List (ℕ × List ℕ)

abbrev pub shape_count : TableData → ℕ
shape_count t = length t.shapes

abbrev pub member_count : TableData → ℕ
member_count t = length t.members

abbrev pub no_constraints : ConstraintData
no_constraints = record { min = None; max = None; pattern = None; texts = []; numbers = [] }

-- Of a shape that may be missing. Past the table's end these words answer something, to be total: a shape that isn't there
-- has no values. Calls ask within the table.
abbrev pub kind_in : Option ShapeData → ShapeKind
kind_in None = LeftOut
kind_in (Some s) = s.kind

abbrev pub members_in : Option ShapeData → List ℕ
members_in None = []
members_in (Some s) = s.members

abbrev pub by_name_in : Option ShapeData → List ℕ
by_name_in None = []
by_name_in (Some s) = s.by_name

abbrev pub by_json_name_in : Option ShapeData → List ℕ
by_json_name_in None = []
by_json_name_in (Some s) = s.by_json_name

abbrev pub needed_in : Option ShapeData → List ℕ
needed_in None = []
needed_in (Some s) = s.needed

abbrev pub shape_constraints_in : Option ShapeData → ConstraintData
shape_constraints_in None = no_constraints
shape_constraints_in (Some s) = s.constraints

abbrev pub unique_in : Option ShapeData → Bool
unique_in None = false
unique_in (Some s) = s.unique

abbrev pub sparse_in : Option ShapeData → Bool
sparse_in None = false
sparse_in (Some s) = s.sparse

abbrev pub unit_in : Option ShapeData → Bool
unit_in None = false
unit_in (Some s) = s.unit

abbrev pub shape_format_in : Option ShapeData → Option Format
shape_format_in None = None
shape_format_in (Some s) = s.format

abbrev pub shape_media_type_in : Option ShapeData → Option (List ℕ)
shape_media_type_in None = None
shape_media_type_in (Some s) = s.media_type

-- of a member that may be missing
abbrev pub home_in : Option MemberData → ℕ
home_in None = 0
home_in (Some m) = m.shape

abbrev pub name_in : Option MemberData → List ℕ
name_in None = []
name_in (Some m) = m.name

-- the name that a member has where JSON names are looked at: its JSON name, else its name
abbrev pub json_name_in : Option MemberData → List ℕ
json_name_in None = []
json_name_in (Some m) = unwrap_or m.json_name m.name

abbrev pub target_in : Option MemberData → ℕ
target_in None = 0
target_in (Some m) = m.target

abbrev pub required_in : Option MemberData → Bool
required_in None = false
required_in (Some m) = m.required

abbrev pub constraints_in : Option MemberData → ConstraintData
constraints_in None = no_constraints
constraints_in (Some m) = m.constraints

abbrev pub format_in : Option MemberData → Option Format
format_in None = None
format_in (Some m) = m.format

abbrev pub media_type_in : Option MemberData → Option (List ℕ)
media_type_in None = None
media_type_in (Some m) = m.media_type

abbrev pub binding_in : Option MemberData → Option BindingData
binding_in None = None
binding_in (Some m) = m.binding

abbrev pub default_node_in : Option MemberData → Option Node
default_node_in None = None
default_node_in (Some m) = m.default_node

abbrev pub default_in : Option MemberData → Option Val
default_in None = None
default_in (Some m) = m.default

-- of the shape with this number
abbrev pub kind_at : TableData → ℕ → ShapeKind
kind_at t s = kind_in (slice_get t.shapes s)

abbrev pub members_at : TableData → ℕ → List ℕ
members_at t s = members_in (slice_get t.shapes s)

abbrev pub by_name_at : TableData → ℕ → List ℕ
by_name_at t s = by_name_in (slice_get t.shapes s)

abbrev pub by_json_name_at : TableData → ℕ → List ℕ
by_json_name_at t s = by_json_name_in (slice_get t.shapes s)

abbrev pub needed_at : TableData → ℕ → List ℕ
needed_at t s = needed_in (slice_get t.shapes s)

abbrev pub shape_constraints_at : TableData → ℕ → ConstraintData
shape_constraints_at t s = shape_constraints_in (slice_get t.shapes s)

abbrev pub unique_at : TableData → ℕ → Bool
unique_at t s = unique_in (slice_get t.shapes s)

abbrev pub sparse_at : TableData → ℕ → Bool
sparse_at t s = sparse_in (slice_get t.shapes s)

abbrev pub unit_at : TableData → ℕ → Bool
unit_at t s = unit_in (slice_get t.shapes s)

abbrev pub shape_format_at : TableData → ℕ → Option Format
shape_format_at t s = shape_format_in (slice_get t.shapes s)

abbrev pub shape_media_type_at : TableData → ℕ → Option (List ℕ)
shape_media_type_at t s = shape_media_type_in (slice_get t.shapes s)

-- of the member with this number
abbrev pub home_at : TableData → ℕ → ℕ
home_at t k = home_in (slice_get t.members k)

abbrev pub name_at : TableData → ℕ → List ℕ
name_at t k = name_in (slice_get t.members k)

abbrev pub json_name_at : TableData → ℕ → List ℕ
json_name_at t k = json_name_in (slice_get t.members k)

abbrev pub target_at : TableData → ℕ → ℕ
target_at t k = target_in (slice_get t.members k)

abbrev pub required_at : TableData → ℕ → Bool
required_at t k = required_in (slice_get t.members k)

abbrev pub constraints_at : TableData → ℕ → ConstraintData
constraints_at t k = constraints_in (slice_get t.members k)

abbrev pub format_at : TableData → ℕ → Option Format
format_at t k = format_in (slice_get t.members k)

abbrev pub media_type_at : TableData → ℕ → Option (List ℕ)
media_type_at t k = media_type_in (slice_get t.members k)

abbrev pub binding_at : TableData → ℕ → Option BindingData
binding_at t k = binding_in (slice_get t.members k)

abbrev pub default_node_at : TableData → ℕ → Option Node
default_node_at t k = default_node_in (slice_get t.members k)

abbrev pub default_at : TableData → ℕ → Option Val
default_at t k = default_in (slice_get t.members k)

-- the texts that stand under a pattern's number
abbrev pub texts_numbered : ℕ → List (ℕ × List ℕ) → List (List ℕ)
texts_numbered n [] = []
texts_numbered n (p ∷ ps) = cond (p.0 == n) (p.1 ∷ texts_numbered n ps) (texts_numbered n ps)

abbrev pub first_text : List (List ℕ) → List ℕ
first_text [] = []
first_text (t ∷ ts) = t

-- the text of a pattern
abbrev pub pattern_at : TableData → ℕ → List ℕ
pattern_at t n = first_text (texts_numbered n t.patterns)

-- 1 where there is a default
abbrev pub count_of_default : Option Val → ℕ
count_of_default None = 0
count_of_default (Some v) = 1

-- the first of these members that has the name, by what their names are
abbrev pub member_with : (ℕ → List ℕ) → List ℕ → List ℕ → Option ℕ
member_with name w [] = None
member_with name w (k ∷ ks) = cond (bytes_eq (name k) w) (Some k) (member_with name w ks)

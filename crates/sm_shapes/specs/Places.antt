-- Places of values: a value by itself is of a shape, and any other stands at a member, whose constraints and format count in
-- place of its target's. The entries of a list stand at the list's one member, the keys and values of a map at its two.
use Rattle.std.specs.Prelude.{ℕ, Bool, List, slice_index_or, Option}
use Rattle.sm_time.specs.declared.format.Format.{Format}
use Rattle.sm_shapes.specs.declared.kinds.ShapeKind.{ShapeKind}
use Rattle.sm_shapes.specs.TableData.{TableData, ConstraintData, kind_at, members_at, shape_constraints_at, unique_at, sparse_at}
use Rattle.sm_shapes.specs.TableData.{shape_format_at, shape_media_type_at, target_at, constraints_at, format_at, media_type_at}

pub data Place : Type 0 where
  root_place : ℕ → Place
  member_place : ℕ → Place

-- the number of the shape of its values
abbrev pub shape_of : TableData → Place → ℕ
shape_of t (root_place s) = s
shape_of t (member_place k) = target_at t k

abbrev pub constraints_of : TableData → Place → ConstraintData
constraints_of t (root_place s) = shape_constraints_at t s
constraints_of t (member_place k) = constraints_at t k

abbrev pub format_of : TableData → Place → Option Format
format_of t (root_place s) = shape_format_at t s
format_of t (member_place k) = format_at t k

abbrev pub media_type_of : TableData → Place → Option (List ℕ)
media_type_of t (root_place s) = shape_media_type_at t s
media_type_of t (member_place k) = media_type_at t k

abbrev pub kind_of : TableData → Place → ShapeKind
kind_of t p = kind_at t (shape_of t p)

abbrev pub members_of_place : TableData → Place → List ℕ
members_of_place t p = members_at t (shape_of t p)

abbrev pub unique_of : TableData → Place → Bool
unique_of t p = unique_at t (shape_of t p)

abbrev pub sparse_of : TableData → Place → Bool
sparse_of t p = sparse_at t (shape_of t p)

-- the places in a list and in a map
abbrev pub entry_place : TableData → Place → Place
entry_place t p = member_place (slice_index_or (members_of_place t p) 0 0)

abbrev pub key_place : TableData → Place → Place
key_place t p = member_place (slice_index_or (members_of_place t p) 0 0)

abbrev pub value_place : TableData → Place → Place
value_place t p = member_place (slice_index_or (members_of_place t p) 1 0)

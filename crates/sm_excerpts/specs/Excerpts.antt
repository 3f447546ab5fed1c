-- Tables that have all of another one first, under the same numbers, and behind it structures more: each has copies of some members of others,
-- its excerpt. What a tree comes to there is what those members come to.
use Rattle.std.specs.Prelude.{◌≡◌, ◌<◌, ◌++◌, ℕ, List}
use Rattle.std.specs.List.{AllZip}
use Rattle.sm_shapes.specs.TableData.{MemberData, ShapeData, TableData, constraints_at, default_at, format_at, json_name_at, kind_at}
use Rattle.sm_shapes.specs.TableData.{members_at, name_at, required_at, shape_count, target_at}
use Rattle.sm_shapes.specs.declared.kinds.ShapeKind.TheVariants.{Structure}

-- a member of the one table says of values what a member of the other says
pub record IsCopy (d t : TableData) (j k : ℕ) : Type 0 where
  pub name : name_at d j ≡ name_at t k
  pub json_name : json_name_at d j ≡ json_name_at t k
  pub target : target_at d j ≡ target_at t k
  pub required : required_at d j ≡ required_at t k
  pub constraints : constraints_at d j ≡ constraints_at t k
  pub format : format_at d j ≡ format_at t k
  pub default : default_at d j ≡ default_at t k

-- the table has all of the other first
pub record Extends (d t : TableData) : Type 0 where
  pub shapes : (more : List ShapeData) × (d.shapes ≡ t.shapes ++ more)
  pub members : (more : List MemberData) × (d.members ≡ t.members ++ more)
  pub patterns : d.patterns ≡ t.patterns

-- a structure whose members are copies of these, in their order
pub record IsExcerpt (d t : TableData) (s : ℕ) (ks : List ℕ) : Type 0 where
  pub there : s < shape_count d
  pub kind : kind_at d s ≡ Structure
  pub copies : AllZip (IsCopy d t) (members_at d s) ks

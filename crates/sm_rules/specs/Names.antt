-- Names of shapes and of members (Smithy 2.0, "Shape ID": ids of shapes, and names of members, differ without regard to case).
use Rattle.std.specs.Prelude.{◌≡◌, ℕ, List, Some}
use Rattle.std.specs.List.{find}
use Rattle.std.specs.Str.{str_eq_ignore_ascii_case}
use Rattle.sm_model.specs.Graphs.{ShapeEntry, GraphMaps, member_id, text_cmp}
use Rattle.sm_rules.specs.Words.{IsListedBehind, IsOwnShape, IsLeast}
use Rattle.std.specs.declared.cmp.Ordering.TheVariants.{Less}
use Rattle.sm_ids.specs.Fold.{FoldsTo}

-- Member.Case: an earlier member of the shape has the id but for case; told is the name of the first such
pub record RepeatsName (g : GraphMaps) (id detail : List ℕ) : Type 0 where
  pub shape : List ℕ
  pub s : ShapeEntry
  pub before : List (List ℕ)
  pub behind : IsListedBehind g shape s before id
  pub first : find (str_eq_ignore_ascii_case id) before ≡ Some (member_id shape detail)

-- a smaller id of another shape that is equal but for case
pub record IsCaseTwin (g : GraphMaps) (id other : List ℕ) : Type 0 where
  pub s : ShapeEntry
  pub own : IsOwnShape g other s
  pub smaller : text_cmp other id ≡ Less
  pub same : FoldsTo other id

-- Id.Case: told is the least such id
pub record HasCaseTwin (g : GraphMaps) (id detail : List ℕ) : Type 0 where
  pub s : ShapeEntry
  pub own : IsOwnShape g id s
  pub least : IsLeast (IsCaseTwin g id) detail

-- The rows that an excerpt adds to a table.
use Rattle.std.specs.Prelude.{◌≡◌, ◌++◌, ℕ, zero, suc, List, [], ◌∷◌, Option, Some, None, length, slice_get}
use Rattle.std.specs.List.{filter, flat_map}
use Rattle.std.specs.Option.{option_map}
use Rattle.sm_shapes.specs.InOrder.{AreByName, is_needed}
use Rattle.sm_shapes.specs.TableData.{MemberData, ShapeData, TableData, json_name_at, name_at}
use Rattle.sm_shapes.specs.declared.kinds.ShapeKind.TheVariants.{Structure}

-- the copy of a row in the structure with this number, which no part of a message is for
abbrev pub copy_in : ℕ → MemberData → MemberData
copy_in s m = record m { shape = s; binding = None }

abbrev pub listed : {A : Type 0} → Option A → List A
listed None = []
listed (Some x) = x ∷ []

-- the copy of the row with this number, and of these
abbrev pub copy_at : List MemberData → ℕ → ℕ → List MemberData
copy_at rows s k = listed (option_map (copy_in s) (slice_get rows k))

abbrev pub copies_of : List MemberData → ℕ → List ℕ → List MemberData
copies_of rows s ks = flat_map (copy_at rows s) ks

-- so many numbers from one on
abbrev pub numbers_from : ℕ → ℕ → List ℕ
numbers_from first zero = []
numbers_from first (suc n) = first ∷ numbers_from (suc first) n

-- the rows of members, as those of a table that has nothing else
abbrev pub rows_alone : List MemberData → TableData
rows_alone rows = record { shapes = []; members = rows; patterns = [] }

-- the row of the structure whose members these are, so many from one on, among all rows
pub record IsExcerptRow (rows : List MemberData) (first count : ℕ) (row : ShapeData) : Type 0 where
  pub kind : row.kind ≡ Structure
  pub members : row.members ≡ numbers_from first count
  pub by_name : AreByName (name_at (rows_alone rows)) row.members row.by_name
  pub by_json_name : AreByName (json_name_at (rows_alone rows)) row.members row.by_json_name
  pub needed : row.needed ≡ filter (is_needed (rows_alone rows)) row.members
  pub pattern : row.constraints.pattern ≡ None

-- the table has one structure more
pub record AddsExcerpt (t d : TableData) (ks : List ℕ) : Type 0 where
  pub row : ShapeData
  pub shapes : d.shapes ≡ t.shapes ++ row ∷ []
  pub members : d.members ≡ t.members ++ copies_of t.members (length t.shapes) ks
  pub patterns : d.patterns ≡ t.patterns
  pub is : IsExcerptRow d.members (length t.members) (length ks) row

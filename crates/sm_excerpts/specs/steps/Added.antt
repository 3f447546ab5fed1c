-- The rows of the code that an excerpt adds to a table.
use Rattle.std.specs.Prelude.{◌≡◌, ◌++◌, ℕ, List, length, map}
use Rattle.sm_shapes.specs.TableData.{MemberData}
use Rattle.sm_shapes.specs.TableView.{member_data, shape_data}
use Rattle.sm_excerpts.specs.declared.excerpt.ExcerptRows.{ExcerptRows}
use Rattle.sm_excerpts.specs.steps.Rows.{IsExcerptRow, copies_of}

pub record AreExcerptRows (ms : List MemberData) (s : ℕ) (ks : List ℕ) (all : ExcerptRows) : Type 0 where
  pub members : map member_data all.members.items ≡ ms ++ copies_of ms s ks
  pub is : IsExcerptRow (map member_data all.members.items) (length ms) (length ks) (shape_data all.row)

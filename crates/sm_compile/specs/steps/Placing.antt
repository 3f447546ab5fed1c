-- Where a member stands, by numbers of the graph and of the table, and what rows are made from.
use Rattle.std.specs.Prelude.{◌≡◌, ℕ, List, Some, get_or, slice_get}
use Rattle.sm_model.specs.GraphView.{IsShapeNumber, maps_of}
use Rattle.sm_model.specs.Reaching.{id_of_number}
use Rattle.sm_model.specs.declared.graph.Graph.{Graph}
use Rattle.sm_compile.specs.Compiled.{AreNumberedFrom, PatternRows, texts_of}
use Rattle.sm_compile.specs.declared.patterns.CarriedTexts.{CarriedTexts}
use Rattle.sm_compile.specs.declared.rows.MemberPlace.{MemberPlace}
use Rattle.sm_compile.specs.steps.Carrying.{ArePlaced, texts_in}
use Rattle.sm_compile.specs.steps.Looked.{kind_under, target_under}
use Rattle.sm_compile.specs.steps.Numbered.{AreReady}

-- the member stands in the shape of this row, and has this target
pub record HasPlace (g : Graph) (shapes : List ℕ) (home_row member : ℕ) (place : MemberPlace) : Type 0 where
  pub number : place.member ≡ member
  pub home : place.home_row ≡ home_row
  pub home_kind : kind_under (maps_of g) (id_of_number g (get_or shapes home_row 0)) ≡ Some place.home_kind
  pub target : target_under (maps_of g) (id_of_number g member) ≡ Some (id_of_number g place.target)
  pub target_number : IsShapeNumber g place.target
  pub target_kind : kind_under (maps_of g) (id_of_number g place.target) ≡ Some place.target_kind
  pub target_row : slice_get shapes place.target_row ≡ Some place.target

-- what rows are made from: shapes that are ready, and the patterns that they carry, with their numbers
pub record AreParts (g : Graph) (numbers : List ℕ) (c : CarriedTexts) (rows : PatternRows) : Type 0 where
  pub ready : AreReady g numbers (texts_in c)
  pub placed : ArePlaced c
  pub texts : texts_of rows ≡ texts_in c
  pub numbered : (k : ℕ) × AreNumberedFrom k rows

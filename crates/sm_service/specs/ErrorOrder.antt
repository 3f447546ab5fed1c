-- What is kept beside lists of errors, so that each is found by its name by halves, or by its place.
use Rattle.std.specs.Prelude.{ℕ, List, [], Option, get_or, length, map}
use Rattle.std.specs.List.{Contains, range_with_len}
use Rattle.sm_shapes.specs.InOrder.{AreByName}
use Rattle.sm_shapes.specs.Names.{AllDiffer}
use Rattle.sm_shapes.specs.TableData.{member_with}
use Rattle.sm_service.specs.ErrorsView.{RiseBetween}
use Rattle.sm_service.specs.ServiceData.{name_of_error}
use Rattle.sm_service.specs.declared.error.ErrorShape.{ErrorShape}

-- the places of errors, and the name of the one at a place
abbrev pub places_of : List ErrorShape → List ℕ
places_of es = range_with_len 0 (length es)

abbrev pub name_at_place : List ErrorShape → ℕ → List ℕ
name_at_place es k = get_or (map name_of_error es) k []

-- no name stands at two places
abbrev pub NamesDiffer : List ErrorShape → Type 0
NamesDiffer es = AllDiffer (map (name_at_place es) (places_of es))

-- the place of the first error of a name
abbrev pub place_named : List ErrorShape → List ℕ → Option ℕ
place_named es name = member_with (name_at_place es) name (places_of es)

-- all places of errors whose names differ, in the byte order of the names
pub record IsNameOrder (es : List ErrorShape) (places : List ℕ) : Type 0 where
  pub order : AreByName (name_at_place es) (places_of es) places
  pub differ : NamesDiffer es

-- own errors with their order, and the places among shared ones of those that have the name of an own one. They rise
pub record AreJoined (own : List ErrorShape) (own_by_name again : List ℕ) (shared : List ErrorShape) : Type 0 where
  pub order : IsNameOrder own own_by_name
  pub rise : RiseBetween 0 (length shared) again
  pub named : (k : ℕ) → Contains again k → Contains (map name_of_error own) (name_at_place shared k)

-- What is asked of the rows of the table that name a trait, as tests.
use Rattle.std.specs.Prelude.{◌&&◌, ℕ, Bool, true, false, not, List, [], ◌∷◌, cond}
use Rattle.std.specs.List.{list_any}
use Rattle.std.specs.Str.{bytes_eq}
use Rattle.sm_tree.specs.Node.{Node}
use Rattle.sm_model.specs.declared.kind.Kind.TheVariants as model
use Rattle.sm_rules.specs.TraitRows as table
use Rattle.sm_rules.specs.TraitRows.{PlaceForm, TraitRow, ValueForm, has_form, trait_rows}
use Rattle.sm_passes.specs.declared.rows.names.FoundRows.{FoundRows}
use Rattle.sm_passes.specs.declared.rows.names.FoundRows.TheVariants as found
use Rattle.sm_passes.specs.declared.rows.place.Stand.{Stand}
use Rattle.sm_passes.specs.Forms.{form_said}
use Rattle.sm_passes.specs.Places.{is_member_of, is_member_to, is_shape_of, places_said}

-- a test of a row by its values and places
abbrev pub AsksOfRow : Type 0
AsksOfRow = ValueForm → List PlaceForm → Bool

-- a row names the trait, and passes
abbrev pub names_passing : List ℕ → AsksOfRow → TraitRow → Bool
names_passing trait test r = list_any (bytes_eq trait) r.traits && test r.value r.places

abbrev pub some_row : List ℕ → AsksOfRow → List TraitRow → Bool
some_row trait test rows = list_any (names_passing trait test) rows

-- the rows that name a trait, by the values and places that the code has for them
abbrev pub rows_said : FoundRows → List (ValueForm × List PlaceForm)
rows_said found.Absent = []
rows_said (found.One f p) = (form_said f, places_said p) ∷ []
rows_said (found.Two f p g q) = (form_said f, places_said p) ∷ (form_said g, places_said q) ∷ []

abbrev pub some_said : AsksOfRow → FoundRows → Bool
some_said test rows = list_any (λ r. test r.0 r.1) (rows_said rows)

-- a trait that stands there may be at such a place
abbrev pub stand_takes_in : Stand → PlaceForm → Bool
stand_takes_in at table.everywhere = true
stand_takes_in at table.any_shape = is_shape_of (λ kind. true) at
stand_takes_in at table.structure_member = is_member_of (table.is_kind model.Structure) at
stand_takes_in at (table.member_of kinds) = is_member_of kinds at
stand_takes_in at (table.of_types kinds) = is_shape_of kinds at
stand_takes_in at (table.targeting kinds) = is_member_to kinds at
stand_takes_in at table.unit_alone = false

-- any row; one whose place takes the trait in; one whose values these are; both
abbrev pub any_row : AsksOfRow
any_row value places = true

abbrev pub stands_by : Stand → AsksOfRow
stands_by at value places = list_any (stand_takes_in at) places

abbrev pub reads_by : Node → AsksOfRow
reads_by n value places = has_form value n

abbrev pub reads_there : Stand → Node → AsksOfRow
reads_there at n value places = list_any (stand_takes_in at) places && has_form value n

-- by the table a trait with this value that stands there has a wrong value, or stands at a wrong place
abbrev pub is_wrong_value : List ℕ → Stand → Node → Bool
is_wrong_value trait at n =
    some_row trait any_row trait_rows
    && not (cond (some_row trait (stands_by at) trait_rows) (some_row trait (reads_there at n) trait_rows)
    (some_row trait (reads_by n) trait_rows))

abbrev pub is_wrong_place : List ℕ → Stand → Node → Bool
is_wrong_place trait at n = some_row trait any_row trait_rows && not (some_row trait (stands_by at) trait_rows)

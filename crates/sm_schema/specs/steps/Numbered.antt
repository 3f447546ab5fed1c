-- The places that have a definition, as they are found: each with how many were found before it.
use Rattle.std.specs.Prelude.{◌≡◌, ℕ, Bool, true, false, ◌<◌, cond, List, [], ◌∷◌, map, length, Option, Some, None, slice_index_or}
use Rattle.sm_tree.specs.Node.{Node}
use Rattle.sm_shapes.specs.TableData.{TableData, shape_count, member_count}
use Rattle.sm_shapes.specs.Places.{Place, root_place, member_place}
use Rattle.sm_codec.specs.Codec.{InTable}
use Rattle.sm_codec.specs.PlaceView.{place_of}
use Rattle.sm_schema.specs.Definitions.{HaveTargetsValues, has_place, number_in, Listed, Listing}
use Rattle.sm_schema.specs.Described.{choice_schema, member_schema}
use Rattle.sm_schema.specs.declared.listing.DefinedPlaces.{DefinedPlaces}

abbrev pub numbered : List Place → Place → Option ℕ
numbered ps p = cond (has_place p ps) (Some (number_in ps p)) None

abbrev pub AllIn : TableData → List Place → Type 0
AllIn t [] = Unit {0}
AllIn t (p ∷ ps) = InTable t p × AllIn t ps

-- the numbers of members of a table
abbrev pub AllMembers : TableData → List ℕ → Type 0
AllMembers t [] = Unit {0}
AllMembers t (k ∷ ks) = (k < member_count t) × AllMembers t ks

-- two lists have the numbers of the places of shapes and of members; and where it is known that members have their targets' values, they do
pub record Numbered (t : TableData) (ps : List Place) (shapes members : List (Option ℕ)) (known : Bool) : Type 0 where
  pub shapes_many : length shapes ≡ shape_count t
  pub members_many : length members ≡ member_count t
  pub of_shapes : (s : ℕ) → s < shape_count t → slice_index_or shapes s None ≡ numbered ps (root_place s)
  pub of_members : (k : ℕ) → k < member_count t → slice_index_or members k None ≡ numbered ps (member_place k)
  pub inside : AllIn t ps
  pub values : known ≡ true → HaveTargetsValues t

abbrev pub places_in : DefinedPlaces → List Place
places_in all = map place_of all.places.items

abbrev pub AreNumbered : TableData → DefinedPlaces → Type 0
AreNumbered t all = Numbered t (places_in all) all.shapes.items all.members.items all.values_known

-- the places are those of a shape, in their order
abbrev pub AreListed : TableData → ℕ → List Place → Type 0
AreListed t s ps = (turns : ℕ) × Listed t turns (root_place s ∷ []) 0 ps

-- what definitions are made of
abbrev pub listing : TableData → Bool → List Place → Listing
listing t json_names ps = record { table = t; json_names = json_names; places = ps }

abbrev pub listing_of : TableData → Bool → DefinedPlaces → Listing
listing_of t json_names all = listing t json_names (places_in all)

-- the schema of a member of a union, or of a structure
abbrev pub schema_for : Listing → Bool → ℕ → Node
schema_for d true k = choice_schema d k
schema_for d false k = member_schema d k

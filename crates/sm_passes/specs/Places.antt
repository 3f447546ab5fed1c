-- The places that the rows of the table of traits allow, by the names that the code has for them, as tests.
use Rattle.std.specs.Prelude.{◌||◌, Bool, true, false, List, [], ◌∷◌, Option, Some, None}
use Rattle.sm_model.specs.Graphs.{Entry, shape_entry, member_entry}
use Rattle.sm_model.specs.declared.kind.Kind.{Kind}
use Rattle.sm_model.specs.declared.kind.Kind.TheVariants as model
use Rattle.sm_compile.specs.Kinds.{has_length, is_text_kind, is_whole_kind}
use Rattle.sm_rules.specs.TraitRows as table
use Rattle.sm_rules.specs.TraitRows.{PlaceForm, Spot, at_member, at_shape, is_among, is_kind}
use Rattle.sm_passes.specs.declared.rows.kinds.Types.{Types}
use Rattle.sm_passes.specs.declared.rows.kinds.Types.TheVariants as types
use Rattle.sm_passes.specs.declared.rows.place.RowPlace.{RowPlace}
use Rattle.sm_passes.specs.declared.rows.place.RowPlace.TheVariants as place
use Rattle.sm_passes.specs.declared.rows.place.Stand.{Stand}
use Rattle.sm_passes.specs.declared.rows.place.Stand.TheVariants as stand
use Rattle.sm_passes.specs.declared.rows.place.Behind.{Behind}
use Rattle.sm_passes.specs.declared.rows.place.Behind.TheVariants as behind

-- those of values that may be defaults
abbrev pub is_defaulted_kind : Kind → Bool
is_defaulted_kind model.Structure = false
is_defaulted_kind model.Union = false
is_defaulted_kind model.Service = false
is_defaulted_kind model.Operation = false
is_defaulted_kind model.Resource = false
is_defaulted_kind kind = true

abbrev pub types_said : Types → Kind → Bool
types_said types.Structure = is_kind model.Structure
types_said types.List = is_kind model.List
types_said types.Container = is_among (model.List ∷ model.Map ∷ [])
types_said types.Operation = is_kind model.Operation
types_said types.Streamed = is_among (model.Blob ∷ model.Union ∷ [])
types_said types.Resource = is_kind model.Resource
types_said types.Paginated = is_among (model.Operation ∷ model.Service ∷ [])
types_said types.Service = is_kind model.Service
types_said types.Titled = is_among (model.Service ∷ model.Resource ∷ [])
types_said types.Authorized = is_among (model.Service ∷ model.Operation ∷ [])
types_said types.Answering = is_among (model.Operation ∷ model.Structure ∷ [])
types_said types.Trait = is_among table.trait_kinds
types_said types.Defaulted = is_among table.defaulted_kinds
types_said types.Sized = has_length
types_said types.Whole = is_whole_kind
types_said types.Fraction = is_among table.fraction_kinds
types_said types.Text = is_text_kind
types_said types.Media = is_among (model.Text ∷ model.Blob ∷ [])
types_said types.Named = is_among (model.Structure ∷ model.Union ∷ [])
types_said types.Enum = is_among (model.Enum ∷ model.IntEnum ∷ [])
types_said types.Timestamp = is_among (model.Timestamp ∷ [])
types_said types.Reference = is_among (model.Structure ∷ model.Text ∷ [])

abbrev pub places_said : RowPlace → List PlaceForm
places_said place.Everywhere = table.everywhere ∷ []
places_said place.AnyShape = table.any_shape ∷ []
places_said place.StructureMember = table.structure_member ∷ []
places_said place.Unit = table.unit_alone ∷ []
places_said place.Default = table.structure_member ∷ table.of_types (types_said types.Defaulted) ∷ []
places_said (place.MemberOf ts) = table.member_of (types_said ts) ∷ []
places_said (place.Of ts) = table.of_types (types_said ts) ∷ []
places_said (place.With ts) = table.with_members (types_said ts)

-- what stands behind a member's target, and where a trait stands
abbrev pub entry_behind : Option Entry → Behind
entry_behind None = behind.Nothing
entry_behind (Some (shape_entry s)) = behind.Shape s.kind
entry_behind (Some (member_entry m)) = behind.Member

abbrev pub stand_at : Spot → Stand
stand_at (at_shape kind) = stand.Shape kind
stand_at (at_member kind target) = stand.Member kind (entry_behind target)

abbrev pub is_behind : (Kind → Bool) → Behind → Bool
is_behind test behind.Nothing = true
is_behind test (behind.Shape kind) = test kind
is_behind test behind.Member = false

abbrev pub is_shape_of : (Kind → Bool) → Stand → Bool
is_shape_of test (stand.Shape kind) = test kind
is_shape_of test (stand.Member kind target) = false

abbrev pub is_member_of : (Kind → Bool) → Stand → Bool
is_member_of test (stand.Shape kind) = false
is_member_of test (stand.Member kind target) = test kind

abbrev pub is_member_to : (Kind → Bool) → Stand → Bool
is_member_to test (stand.Shape kind) = false
is_member_to test (stand.Member kind target) = is_behind test target

-- a trait that may stand at such a place may stand there
abbrev pub allows : RowPlace → Stand → Bool
allows place.Everywhere at = true
allows place.AnyShape at = is_shape_of (λ kind. true) at
allows place.StructureMember at = is_member_of (is_kind model.Structure) at
allows place.Unit at = false
allows place.Default at = is_member_of (is_kind model.Structure) at || is_shape_of (types_said types.Defaulted) at
allows (place.MemberOf ts) at = is_member_of (types_said ts) at
allows (place.Of ts) at = is_shape_of (types_said ts) at
allows (place.With ts) at = is_shape_of (types_said ts) at || is_member_to (types_said ts) at

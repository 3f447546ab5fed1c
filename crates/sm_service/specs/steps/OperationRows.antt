-- The operations of a service while their rows are made: their numbers in the graph, in the order of their names, and what they refer to.
use Rattle.std.specs.Prelude.{◌≡◌, ◌<◌, ◌≤◌, ◌&&◌, ◌++◌, ◌∷◌, ◌^◌, ℕ, zero, suc, Bool, true, false, not, List, [], Some, codes, cond}
use Rattle.std.specs.Prelude.{filter_map, get_or, length, map, slice_get}
use Rattle.std.specs.List.{Contains}
use Rattle.std.specs.List.Sorted.{IsStrictlySortedBy}
use Rattle.std.specs.Ordering.{nat_cmp}
use Rattle.std.specs.Str.{bytes_eq}
use Rattle.sm_ids.specs.TextParts.{name_part}
use Rattle.sm_model.specs.Graphs.{ShapeEntry, shape_entry, text_cmp}
use Rattle.sm_model.specs.GraphView.{IsShapeAt, IsShapeNumber, entries_of, maps_of}
use Rattle.sm_model.specs.Reaching.{id_of_number}
use Rattle.sm_model.specs.Relations.{HasEntry}
use Rattle.sm_model.specs.declared.graph.Graph.{Graph}
use Rattle.sm_model.specs.declared.kind.Kind.TheVariants.{Operation}
use Rattle.sm_compile.specs.Compiled.{EachSays}
use Rattle.sm_compile.specs.Sound.{trait_of}
use Rattle.sm_compile.specs.TraitIds.{http_error_id}
use Rattle.sm_compile.specs.TraitNodes.{number_of}
use Rattle.sm_compile.specs.declared.compiled.Served.{Served}
use Rattle.sm_compile.specs.declared.compiled.Served.TheVariants.{Yes, Unserved}
use Rattle.sm_compile.specs.steps.Numbered.{numbering}
use Rattle.sm_rules.specs.Words.{IsOwnShape}
use Rattle.sm_http_traits.specs.Carriers.{is_own_operation}
use Rattle.sm_service.specs.Compiled.{IsOperationOf, SaysError, SaysOperation}
use Rattle.sm_service.specs.ErrorOrder.{NamesDiffer, name_at_place, place_named}
use Rattle.sm_service.specs.ErrorsView.{RiseBetween, joined_errors}
use Rattle.sm_service.specs.References.{once, reference_in, references_in}
use Rattle.sm_service.specs.ServedOperation.{TellsAllServed, error_root}
use Rattle.sm_service.specs.ServiceData.{OperationData, name_of_error}
use Rattle.sm_service.specs.ServiceView.{served_said}
use Rattle.sm_service.specs.declared.error.ErrorShape.{ErrorShape}
use Rattle.sm_service.specs.declared.operations.SharedErrors.{SharedErrors}
use Rattle.sm_service.specs.declared.serving.WalkStart.{WalkStart}
use Rattle.sm_service.specs.declared.serving.WalkStart.TheVariants as start
use Rattle.sm_service.specs.steps.ErrorReads.{IsStatusWord}
use Rattle.sm_service.specs.steps.HttpReads.{ReadsHttp}
use Rattle.sm_service.specs.steps.WalkStarts.{start_names, start_shape}

-- the name of what stands at a number
abbrev pub name_of_number : Graph → ℕ → List ℕ
name_of_number g k = name_part (id_of_number g k)

-- a marked operation outside of the prelude, and those below a bound
abbrev pub is_marked_operation : Graph → List Bool → ℕ → Bool
is_marked_operation g marks k = get_or marks k false && is_own_operation (maps_of g) (id_of_number g k)

abbrev pub operations_below : Graph → List Bool → ℕ → List ℕ
operations_below g marks zero = []
operations_below g marks (suc n) = operations_below g marks n ++ cond (is_marked_operation g marks n) (n ∷ []) []

-- these are the numbers of the operations of a service, in the order of their names
pub record AreOperationNumbers (g : Graph) (service : List ℕ) (ks : List ℕ) : Type 0 where
  pub numbers : (k : ℕ) → Contains ks k → IsShapeNumber g k
  pub each : (k : ℕ) → Contains ks k → IsOperationOf (maps_of g) service (id_of_number g k)
  pub all : (id : List ℕ) → IsOperationOf (maps_of g) service id → Contains (map (id_of_number g) ks) id
  pub rise : IsStrictlySortedBy text_cmp (map (name_of_number g) ks)

-- shapes of a table, by their numbers in the graph
pub record AreRowNumbers (g : Graph) (shapes : List ℕ) : Type 0 where
  pub numbers : (k : ℕ) → Contains shapes k → IsShapeNumber g k
  pub rise : IsStrictlySortedBy nat_cmp shapes
  pub few : length shapes < 2 ^ 32

-- the shape with this id has a row
abbrev pub HasRow : Graph → List ℕ → List ℕ → Type 0
HasRow g shapes id = (k : ℕ) × Contains shapes k × (id_of_number g k ≡ id)

-- the ids of errors that a shape names
abbrev pub errors_named : ShapeEntry → List (List ℕ)
errors_named s = references_in (codes "errors") s

-- each of these ids is that of an error with a row, whose status is a status
abbrev pub HaveErrorRows : Graph → List ℕ → List (List ℕ) → Type 0
HaveErrorRows g shapes ids =
    (id : List ℕ) → Contains ids id
    → HasRow g shapes id × IsStatusWord (number_of (trait_of (maps_of g) id http_error_id))

-- of these ids no two have one name
abbrev pub NamesTell : List (List ℕ) → Type 0
NamesTell ids = (a b : List ℕ) → Contains ids a → Contains ids b → name_part a ≡ name_part b → a ≡ b

-- what is known of an operation whose row is made
pub record IsRowOperation (g : Graph) (shapes : List ℕ) (k : ℕ) (s : ShapeEntry) : Type 0 where
  pub number : IsShapeNumber g k
  pub is_shape : IsShapeAt g k
  pub own : IsOwnShape (maps_of g) (id_of_number g k) s
  pub kind : s.kind ≡ Operation
  pub http : ReadsHttp (maps_of g) (id_of_number g k)
  pub input : (id : List ℕ) × (reference_in (codes "input") s ≡ Some id) × HasRow g shapes id
  pub output : (id : List ℕ) × (reference_in (codes "output") s ≡ Some id) × HasRow g shapes id
  pub errors : HaveErrorRows g shapes (errors_named s)
  pub names : NamesTell (errors_named s)

-- the errors of a service, as its operations share them: their names differ from those of this operation, where they aren't the same
pub record SharesErrors (g : Graph) (shapes : List ℕ) (service : ShapeEntry) (known : List ErrorShape) (s : ShapeEntry) : Type 0 where
  pub rows : EachSays (SaysError (maps_of g) (numbering g shapes)) (once (errors_named service)) known
  pub tell : NamesTell (errors_named s ++ errors_named service)

-- the id stands in the graph
abbrev pub IsIdOf : Graph → List ℕ → Type 0
IsIdOf g id = (k : ℕ) × IsShapeNumber g k × (id_of_number g k ≡ id)

-- the id is none of these
abbrev pub is_none_of : List (List ℕ) → List ℕ → Bool
is_none_of [] id = true
is_none_of (other ∷ others) id = not (bytes_eq id other) && is_none_of others id

-- the numbers of shapes of these ids, each once, at its first place
pub record NamesErrors (g : Graph) (shapes : List ℕ) (ids : List (List ℕ)) (ks : List ℕ) : Type 0 where
  pub there : (k : ℕ) → Contains ks k → Contains shapes k
  pub said : map (id_of_number g) ks ≡ once ids
  pub few : length ks ≤ length (entries_of g)

-- numbers of errors with rows
abbrev pub AreErrorNumbers : Graph → List ℕ → List ℕ → Type 0
AreErrorNumbers g shapes ks =
    (k : ℕ) → Contains ks k
    → Contains shapes k × IsStatusWord (number_of (trait_of (maps_of g) (id_of_number g k) http_error_id))

-- the places, among shared errors, of those that have the name of an own one, own error by own error
abbrev pub places_among : List ErrorShape → List ErrorShape → List ℕ
places_among own shared = filter_map (λ e. place_named shared (name_of_error e)) own

-- the places of shared errors that have the name of an own one, in order
pub record AreAgain (own shared : List ErrorShape) (again : List ℕ) : Type 0 where
  pub rise : RiseBetween 0 (length shared) again
  pub named : (k : ℕ) → Contains again k → Contains (map name_of_error own) (name_at_place shared k)
  pub all : (k : ℕ) → k < length shared → Contains (map name_of_error own) (name_at_place shared k) → Contains again k

-- own errors, and behind them the shared ones that have no name of an own one
pub record JoinsErrors (own shared all : List ErrorShape) : Type 0 where
  pub again : List ℕ
  pub places : AreAgain own shared again
  pub joined : all ≡ joined_errors own again shared

-- the ids of errors
abbrev pub ids_of_errors : List ErrorShape → List (List ℕ)
ids_of_errors es = map (λ e. e.id) es

-- the row of an error is that of a shape with its id
abbrev pub StandsAt : Graph → List ℕ → ErrorShape → Type 0
StandsAt g shapes e = (k : ℕ) × (slice_get shapes e.shape ≡ Some k) × IsShapeNumber g k × (id_of_number g k ≡ e.id)

-- where walks begin: an input, an output and errors of these names at these numbers
abbrev pub IsErrorStart : List ℕ → ErrorShape → WalkStart → Type 0
IsErrorStart shapes e w = (start_names w ≡ codes "error" ∷ name_of_error e ∷ []) × (slice_get shapes e.shape ≡ Some (start_shape w))

abbrev pub AreErrorStarts : List ℕ → List ErrorShape → List WalkStart → Type 0
AreErrorStarts shapes [] [] = Unit {0}
AreErrorStarts shapes (e ∷ es) (w ∷ ws) = IsErrorStart shapes e w × AreErrorStarts shapes es ws
AreErrorStarts shapes [] (w ∷ ws) = ⊥
AreErrorStarts shapes (e ∷ es) [] = ⊥

pub record AreStarts (shapes : List ℕ) (errors : List ErrorShape) (input output : ℕ) (ws : List WalkStart) : Type 0 where
  pub behind : List WalkStart
  pub is : Path (List WalkStart) ws (start.Input input ∷ start.Output output ∷ behind)
  pub errors_are : AreErrorStarts shapes errors behind

-- the starts of errors stand behind others
abbrev pub PutsStarts : List ℕ → List ErrorShape → List WalkStart → List WalkStart → Type 0
PutsStarts shapes errors before now =
    (behind : List WalkStart) × Path (List WalkStart) now (before ++ behind) × AreErrorStarts shapes errors behind

-- whether errors are served
abbrev pub TellsErrors : Graph → List ErrorShape → Served → Type 0
TellsErrors g es s = TellsAllServed (maps_of g) (map error_root (ids_of_errors es)) s

-- the first of two answers that isn't that all are served
abbrev pub first_unserved : Served → Served → Served
first_unserved Yes later = later
first_unserved (Unserved path) later = Unserved path

-- errors that operations share, whose names differ, and whether they are served
abbrev pub AreShared : Graph → SharedErrors → Type 0
AreShared g shared = NamesDiffer shared.known.value × TellsErrors g shared.known.value (served_said shared.served)

-- an operation whose row is made, and the errors that it shares
abbrev pub IsReadyOperation : Graph → List ℕ → List ErrorShape → ℕ → Type 0
IsReadyOperation g shapes known k =
    (s service : ShapeEntry) × IsRowOperation g shapes k s × SharesErrors g shapes service known s

-- a field of a shape refers to one that the graph has
abbrev pub RefersTo : Graph → ℕ → List ℕ → Type 0
RefersTo g k name =
    (s : ShapeEntry) × HasEntry (maps_of g) (id_of_number g k) (shape_entry s)
    × ((id : List ℕ) × (reference_in name s ≡ Some id) × IsIdOf g id)

-- a row of an operation, whatever service shares its errors
pub record TellsOperation (g : Graph) (shapes : List ℕ) (known : List ErrorShape) (id : List ℕ) (o : OperationData) : Type 0 where
  pub id_is : o.id ≡ id
  pub name_is : o.name ≡ name_part id
  pub says : (s service : ShapeEntry) → IsOwnShape (maps_of g) id s → s.kind ≡ Operation → SharesErrors g shapes service known s
      → SaysOperation (maps_of g) (numbering g shapes) service o

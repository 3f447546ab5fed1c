-- Where a walk stands that enters each shape once, and none that is known to be served: deeper ones before later ones, by their members in
-- model order.
use Rattle.std.specs.Prelude.{◌≡◌, ◌⊎◌, ◌<◌, ◌≤◌, ◌+◌, ◌*◌, ℕ, Bool, false, not, List, [], ◌∷◌, ◌++◌, length, map, get_or, Option}
use Rattle.std.specs.Prelude.{MatchOption, reverse}
use Rattle.std.specs.List.{Contains, count_by, join_with_byte}
use Rattle.sm_bytes.specs.Ascii.{slash}
use Rattle.sm_model.specs.GraphView.{AreShapeNumbers, IsShapeNumber, entries_of, maps_of}
use Rattle.sm_model.specs.Reaching.{AreFound, id_of_number}
use Rattle.sm_model.specs.Relations.{IsInGraph}
use Rattle.sm_model.specs.declared.graph.Graph.{Graph}
use Rattle.sm_compile.specs.Answers.{TellsServed}
use Rattle.sm_compile.specs.Served.{IsStep, IsUnserved, WayStep}
use Rattle.sm_compile.specs.WayRooms.{AreKnownServed}
use Rattle.sm_compile.specs.declared.way.Above.{Above}
use Rattle.sm_compile.specs.declared.way.NextStep.{NextStep}
use Rattle.sm_compile.specs.declared.way.Turn.{Turn}
use Rattle.sm_compile.specs.declared.way.Turn.TheVariants.{On, Ended}
use Rattle.sm_compile.specs.declared.way.Walk.{Walk}
use Rattle.sm_compile.specs.steps.Carrying.{IsMarkedId}

-- what the graph has of an id was entered, or is known to be served: a step to it is passed by
abbrev pub IsPassed : Graph → List Bool → List Bool → List ℕ → Type 0
IsPassed g known marks id = IsInGraph (maps_of g) id → IsMarkedId g marks id ⊎ IsMarkedId g known id

-- The steps from a shape that is open, up to a member's number, are passed by. Each shape that was entered is served by itself, and is
-- open, or its steps are passed by
pub record IsOpen (g : Graph) (known marks : List Bool) (open_ids : List (List ℕ)) (id : List ℕ) (at : ℕ) : Type 0 where
  pub here : IsMarkedId g marks id
  pub taken : (step : WayStep) → IsStep (maps_of g) id step → step.at < at → IsPassed g known marks step.to
  pub closed : (x : List ℕ) → IsMarkedId g marks x
      → Contains open_ids x ⊎ ((step : WayStep) → IsStep (maps_of g) x step → IsPassed g known marks step.to)
  pub served : (x : List ℕ) → IsMarkedId g marks x → IsUnserved (maps_of g) x → ⊥

abbrev pub ids_above : Graph → List Above → List (List ℕ)
ids_above g above = map (λ a. id_of_number g a.shape) above

abbrev pub step_of : Above → List ℕ → WayStep
step_of a to = record { at = a.at; name = a.name.now; to = to }

-- the innermost shape is open, its steps up to a member's number are taken, and each other one stands as it did before the walk went on
-- from it
abbrev pub StandsAt : Graph → List Bool → List ℕ → List Bool → List ℕ → ℕ → List Above → Type 0
StandsAt g known root marks id at [] = IsOpen g known marks (id ∷ []) id at × (id ≡ root)
StandsAt g known root marks id at (a ∷ above) =
    IsOpen g known marks (id ∷ ids_above g (a ∷ above)) id at
    × IsStep (maps_of g) (id_of_number g a.shape) (step_of a id)
    × ((before : List Bool)
    × (IsMarkedId g before id → ⊥)
    × ((x : List ℕ) → IsMarkedId g before x → IsMarkedId g marks x)
    × StandsAt g known root before (id_of_number g a.shape) a.at above)

-- what was entered is marked, and nothing else; each number of the graph has a mark; what is known to be served is
pub record AreEntered (g : Graph) (w : Walk) : Type 0 where
  pub count : length w.marks.items ≡ length (entries_of g)
  pub found : AreFound w.marks.items w.entered.items
  pub known : AreKnownServed g w.known.items

-- the code's walk: its stack has the innermost last
pub record IsWalk (g : Graph) (root : List ℕ) (w : Walk) : Type 0 where
  pub kept : AreEntered g w
  pub shape : IsShapeNumber g w.shape
  pub above : AreShapeNumbers g (map (λ a. a.shape) w.above.items)
  pub stands : StandsAt g w.known.items root w.marks.items (id_of_number g w.shape) w.at (reverse w.above.items)

-- the step that comes next: to a shape that wasn't entered, those before it are passed by
pub record IsNext (g : Graph) (known marks : List Bool) (shape start : ℕ) (next : NextStep) : Type 0 where
  pub target : IsShapeNumber g next.to
  pub step : IsStep (maps_of g) (id_of_number g shape) (record { at = next.at; name = next.name.now; to = id_of_number g next.to })
  pub fresh : get_or marks next.to false ≡ false
  pub before : (step : WayStep) → IsStep (maps_of g) (id_of_number g shape) step → start ≤ step.at → step.at < next.at
      → IsPassed g known marks step.to

-- or there is none
abbrev pub NoneIsNext : Graph → List Bool → List Bool → ℕ → ℕ → Type 0
NoneIsNext g known marks shape start =
    (step : WayStep) → IsStep (maps_of g) (id_of_number g shape) step → start ≤ step.at → IsPassed g known marks step.to

abbrev pub FindsNext : Graph → List Bool → List Bool → ℕ → ℕ → Option NextStep → Type 0
FindsNext g known marks shape start next = MatchOption next (NoneIsNext g known marks shape start) (λ n. IsNext g known marks shape start n)

-- the step by the member of one number to the shape at a number
abbrev pub IsStepTo : Graph → ℕ → ℕ → ℕ → NextStep → Type 0
IsStepTo g shape at to next =
    (next.at ≡ at) × (next.to ≡ to)
    × IsStep (maps_of g) (id_of_number g shape) (record { at = next.at; name = next.name.now; to = id_of_number g next.to })

abbrev pub FindsTo : Graph → ℕ → ℕ → ℕ → Option NextStep → Type 0
FindsTo g shape at to next =
    MatchOption next ((step : WayStep) → IsStep (maps_of g) (id_of_number g shape) step → step.at ≡ at → ⊥) (λ n. IsStepTo g shape at to n)

-- the same where the shape wasn't entered
pub record IsFreshStep (g : Graph) (marks : List Bool) (shape at : ℕ) (next : NextStep) : Type 0 where
  pub is_at : next.at ≡ at
  pub target : IsShapeNumber g next.to
  pub step : IsStep (maps_of g) (id_of_number g shape) (record { at = next.at; name = next.name.now; to = id_of_number g next.to })
  pub fresh : get_or marks next.to false ≡ false

abbrev pub FindsAt : Graph → List Bool → List Bool → ℕ → ℕ → Option NextStep → Type 0
FindsAt g known marks shape at next =
    MatchOption next ((step : WayStep) → IsStep (maps_of g) (id_of_number g shape) step → step.at ≡ at → IsPassed g known marks step.to)
    (λ n. IsFreshStep g marks shape at n)

-- how much a walk has left: what it may enter yet, and what it goes back to
abbrev pub walk_left : Walk → ℕ
walk_left w = 2 * count_by not w.marks.items + length w.above.items

-- a turn of a walk from a shape goes on, and leaves less; or it ends with the answer
abbrev pub TurnsFrom : Graph → Walk → Walk → Turn → List ℕ → Type 0
TurnsFrom g before now On root = IsWalk g root now × (walk_left now < walk_left before)
TurnsFrom g before now (Ended s) root = TellsServed (maps_of g) root s

abbrev pub Turns : Graph → Walk → Walk → Turn → Type 0
Turns g before now turn = (root : List ℕ) → IsWalk g root before → TurnsFrom g before now turn root

abbrev pub Walks : Graph → Walk → Type 0
Walks g w = (root : List ℕ) × IsWalk g root w

-- the names of the members by which a walk went, with one more behind them, as a path
abbrev pub path_by : List Above → List ℕ → List ℕ
path_by above last = join_with_byte slash (map (λ a. a.name.now) above ++ last ∷ [])

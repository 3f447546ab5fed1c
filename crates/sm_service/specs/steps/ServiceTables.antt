-- The table of a service while it is made: of the shapes with values that the service leads to, without its bindings and with them.
use Rattle.std.specs.Prelude.{◌≡◌, ◌<◌, ◌++◌, ◌^◌, ◌↔◌, ℕ, List, Option, Result, Ok, Err, length, map}
use Rattle.std.specs.List.{Contains}
use Rattle.std.specs.List.Sorted.{IsStrictlySortedBy}
use Rattle.std.specs.Ordering.{nat_cmp}
use Rattle.sm_model.specs.Graphs.{text_cmp}
use Rattle.sm_model.specs.GraphView.{AreShapeNumbers, maps_of}
use Rattle.sm_model.specs.Reaching.{id_of_number}
use Rattle.sm_model.specs.declared.graph.Graph.{Graph}
use Rattle.sm_shapes.specs.DefaultPuts.{HasNoDefault}
use Rattle.sm_shapes.specs.Fitting.{Test}
use Rattle.sm_shapes.specs.InOrder.{Built, Shaped}
use Rattle.sm_shapes.specs.TableData.{BindingData, TableData}
use Rattle.sm_shapes.specs.TableView.{table_data}
use Rattle.sm_shapes.specs.declared.tables.Table.{Table}
use Rattle.sm_compile.specs.Answers.{IsLeftBehind, IsPatternOfSetRefused, StoreSeen}
use Rattle.sm_compile.specs.Compiled.{AreNumberedFrom, EachSays, IsCompiled, IsTabled, texts_of}
use Rattle.sm_compile.specs.declared.compiled.CompileRefusal.{CompileRefusal}
use Rattle.sm_compile.specs.declared.compiled.CompileRefusal.TheVariants as roots
use Rattle.sm_compile.specs.declared.tabled.Tabled.{Tabled}
use Rattle.sm_compile.specs.steps.Numbered.{numbering}
use Rattle.sm_rules.specs.Ready.{IsOfService}
use Rattle.sm_service.specs.Bound.{Binds}
use Rattle.sm_service.specs.declared.refusal.ServiceRefusal.{ServiceRefusal}
use Rattle.sm_service.specs.declared.refusal.ServiceRefusal.TheVariants.{NoService, Pattern, NoMemory}
use Rattle.sm_service.specs.steps.BindingsTold.{TellsBinding, TellsMedia, TellsShapeMedia, table_bound}

-- these are the numbers of the shapes with values that a service leads to, in order
pub record AreValueShapes (g : Graph) (service : List ℕ) (shapes : List ℕ) : Type 0 where
  pub numbers : AreShapeNumbers g shapes
  pub all : (id : List ℕ) → Contains (map (id_of_number g) shapes) id ↔ IsTabled (maps_of g) (IsOfService (maps_of g) service) id
  pub ids_rise : IsStrictlySortedBy text_cmp (map (id_of_number g) shapes)
  pub rise : IsStrictlySortedBy nat_cmp shapes
  pub few : length shapes < 2 ^ 32

-- a table of them, the patterns of which the store has
pub record IsTableOfShapes (g : Graph) (service : List ℕ) (shapes : List ℕ) (test : Test) (before now : StoreSeen) (t : TableData)
    : Type 0 where
  pub compiled : IsCompiled (maps_of g) (IsOfService (maps_of g) service) t (numbering g shapes)
  pub numbered : AreNumberedFrom (length before.added) t.patterns
  pub shaped : Shaped t
  pub built : Built t now.added test
  pub no_default : HasNoDefault t
  pub added : now.added ≡ before.added ++ texts_of t.patterns
  pub refused : now.refused ≡ before.refused
  pub refusals : now.refusals ≡ before.refusals

-- what refuses the table of several shapes
abbrev pub refusal_of : CompileRefusal → ServiceRefusal
refusal_of roots.NoShape = NoService
refusal_of (roots.Pattern id) = Pattern id
refusal_of roots.NoMemory = NoMemory

abbrev pub IsRefusedOfService : Graph → List ℕ → StoreSeen → StoreSeen → List ℕ → Type 0
IsRefusedOfService g service before now id = IsPatternOfSetRefused (maps_of g) (IsOfService (maps_of g) service) before now id

abbrev pub TablesShapes : Graph → List ℕ → List ℕ → Test → StoreSeen → StoreSeen → Result Table ServiceRefusal → Type 0
TablesShapes g service shapes test before now (Ok table) = IsTableOfShapes g service shapes test before now (table_data table)
TablesShapes g service shapes test before now (Err NoService) = ⊥
TablesShapes g service shapes test before now (Err (Pattern id)) = IsRefusedOfService g service before now id
TablesShapes g service shapes test before now (Err NoMemory) = IsLeftBehind before now

-- a table with bindings and media types, from the one without
pub record IsBoundFrom (g : Graph) (shapes : List ℕ) (t u : TableData) : Type 0 where
  pub bindings : List (Option BindingData)
  pub media : List (Option (List ℕ))
  pub shape_media : List (Option (List ℕ))
  pub bindings_told : EachSays (TellsBinding (maps_of g)) (numbering g shapes).members bindings
  pub media_told : EachSays (TellsMedia (maps_of g)) (numbering g shapes).members media
  pub shapes_told : EachSays (TellsShapeMedia (maps_of g)) (numbering g shapes).shapes shape_media
  pub is : u ≡ table_bound t bindings media shape_media

-- with its bindings
pub record IsBoundTable (g : Graph) (service : List ℕ) (shapes : List ℕ) (test : Test) (before now : StoreSeen) (t : TableData)
    : Type 0 where
  pub of_shapes : IsTableOfShapes g service shapes test before now t
  pub binds : Binds (maps_of g) (numbering g shapes) t

abbrev pub TablesBound : Graph → List ℕ → List ℕ → Test → StoreSeen → StoreSeen → Result Table ServiceRefusal → Type 0
TablesBound g service shapes test before now (Ok table) = IsBoundTable g service shapes test before now (table_data table)
TablesBound g service shapes test before now (Err NoService) = ⊥
TablesBound g service shapes test before now (Err (Pattern id)) = IsRefusedOfService g service before now id
TablesBound g service shapes test before now (Err NoMemory) = IsLeftBehind before now

-- the table of a service, with the numbers of its shapes in the graph
pub record IsTableOfService (g : Graph) (service : List ℕ) (test : Test) (before now : StoreSeen) (made : Tabled) : Type 0 where
  pub shapes : AreValueShapes g service made.shapes.items
  pub table : IsBoundTable g service made.shapes.items test before now (table_data made.table)

abbrev pub TablesService : Graph → List ℕ → Test → StoreSeen → StoreSeen → Result Tabled ServiceRefusal → Type 0
TablesService g service test before now (Ok made) = IsTableOfService g service test before now made
TablesService g service test before now (Err NoService) = ⊥
TablesService g service test before now (Err (Pattern id)) = IsRefusedOfService g service before now id
TablesService g service test before now (Err NoMemory) = IsLeftBehind before now

-- What compiling a shape answers.
use Rattle.std.specs.Prelude.{◌≡◌, ◌++◌, ◌+◌, ◌-◌, ◌^◌, ◌∷◌, ℕ, List, length, Option, Some, Result, Ok, Err, min, slice_get}
use Rattle.std.specs.List.{join_with_byte}
use Rattle.sm_bytes.specs.Ascii.{slash}
use Rattle.sm_model.specs.Graphs.{GraphMaps}
use Rattle.sm_shapes.specs.Fitting.{Test}
use Rattle.sm_shapes.specs.DefaultPuts.{HasNoDefault}
use Rattle.sm_shapes.specs.InOrder.{Shaped, Built}
use Rattle.sm_shapes.specs.TableData.{TableData}
use Rattle.sm_shapes.specs.TableView.{table_data}
use Rattle.sm_compile.specs.Compiled.{AreNumberedFrom, Numbering, IsCompiled, ArePatternsOf, IsFirstCarrier, AllUnbound, NoMediaTypes}
use Rattle.sm_compile.specs.Compiled.{texts_of}
use Rattle.sm_compile.specs.Reached.{IsReached}
use Rattle.sm_compile.specs.Served.{WayStep, IsFirstWay, IsServed, names_of_way}
use Rattle.sm_compile.specs.Sound.{IsValueShape}
use Rattle.sm_compile.specs.declared.compiled.OneShape.{OneShape}
use Rattle.sm_compile.specs.declared.compiled.Served.{Served}
use Rattle.sm_compile.specs.declared.compiled.Served.TheVariants.{Yes, Unserved}
use Rattle.sm_compile.specs.declared.compiled.CompileRefusal.{CompileRefusal}
use Rattle.sm_compile.specs.declared.compiled.CompileRefusal.TheVariants.{NoShape, Pattern, NoMemory}

-- what contracts see of a store of patterns: the texts added, the text refused last, and the count of refusals
pub record StoreSeen : Type 0 where
  pub added : List (List ℕ)
  pub refused : Option (List ℕ)
  pub refusals : ℕ

abbrev pub seen_store : List (List ℕ) → Option (List ℕ) → ℕ → StoreSeen
seen_store added refused refusals = record { added = added; refused = refused; refusals = refusals }

-- whether all that a shape reaches is served
abbrev pub TellsServed : GraphMaps → List ℕ → Served → Type 0
TellsServed g root Yes = IsServed g root
TellsServed g root (Unserved path) = (way : List WayStep) × IsFirstWay g root way × (path ≡ join_with_byte slash (names_of_way way))

-- the table of a shape as data, with the shape's number in it and whether its values are served
pub record TableSeen : Type 0 where
  pub table : TableData
  pub shape : ℕ
  pub served : Served

abbrev pub seen_table : OneShape → TableSeen
seen_table one = record { table = table_data one.table; shape = one.shape; served = one.served }

-- a table of the shape, and the store has the table's patterns behind those that it had
pub record IsTableSeen (g : GraphMaps) (root : List ℕ) (test : Test) (before now : StoreSeen) (one : TableSeen) : Type 0 where
  pub numbering : Numbering
  pub compiled : IsCompiled g (IsReached g root) one.table numbering
  pub shape : slice_get numbering.shapes one.shape ≡ Some root
  pub numbered : AreNumberedFrom (length before.added) one.table.patterns
  pub unbound : AllUnbound one.table.members
  pub no_media : NoMediaTypes one.table.shapes
  pub shaped : Shaped one.table
  pub built : Built one.table now.added test
  pub no_default : HasNoDefault one.table
  pub served : TellsServed g root one.served
  pub added : now.added ≡ before.added ++ texts_of one.table.patterns
  pub refused : now.refused ≡ before.refused
  pub refusals : now.refusals ≡ before.refusals

abbrev pub IsShapeCompiled : GraphMaps → List ℕ → Test → StoreSeen → StoreSeen → OneShape → Type 0
IsShapeCompiled g root test before now one = IsTableSeen g root test before now (seen_table one)

-- a pattern is refused: those before it were added, its text is the one refused last, and the id is the first of those that carry it
pub record IsPatternOfSetRefused (g : GraphMaps) (In : List ℕ → Type 0) (before now : StoreSeen) (id : List ℕ) : Type 0 where
  pub text : List ℕ
  pub earlier : List (List ℕ)
  pub later : List (List ℕ)
  pub patterns : ArePatternsOf g In (earlier ++ text ∷ later)
  pub added : now.added ≡ before.added ++ earlier
  pub refused : now.refused ≡ Some text
  pub refusals : now.refusals ≡ min (before.refusals + 1) (2 ^ 64 - 1)
  pub carrier : IsFirstCarrier g In text id

abbrev pub IsPatternRefused : GraphMaps → List ℕ → StoreSeen → StoreSeen → List ℕ → Type 0
IsPatternRefused g root before now id = IsPatternOfSetRefused g (IsReached g root) before now id

-- where memory runs out nothing is refused, and what was added stands behind what was there
pub record IsLeftBehind (before now : StoreSeen) : Type 0 where
  pub more : List (List ℕ)
  pub added : now.added ≡ before.added ++ more
  pub refused : now.refused ≡ before.refused
  pub refusals : now.refusals ≡ before.refusals

abbrev pub CompilesShape : GraphMaps → List ℕ → Test → StoreSeen → StoreSeen → Result OneShape CompileRefusal → Type 0
CompilesShape g root test before now (Ok one) = IsValueShape g root × IsShapeCompiled g root test before now one
CompilesShape g root test before now (Err NoShape) = (IsValueShape g root → ⊥) × Path StoreSeen now before
CompilesShape g root test before now (Err (Pattern id)) = IsValueShape g root × IsPatternRefused g root before now id
CompilesShape g root test before now (Err NoMemory) = IsLeftBehind before now

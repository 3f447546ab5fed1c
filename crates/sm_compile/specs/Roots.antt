-- The table of several shapes and of all that they reach: what making one asks and answers.
use Rattle.std.specs.Prelude.{◌≡◌, ◌<◌, ◌++◌, ◌^◌, ℕ, List, length, map, Result, Ok, Err}
use Rattle.std.specs.List.{Contains}
use Rattle.std.specs.List.Sorted.{IsStrictlySortedBy}
use Rattle.std.specs.Ordering.{nat_cmp}
use Rattle.sm_model.specs.Graphs.{GraphMaps}
use Rattle.sm_model.specs.GraphView.{maps_of}
use Rattle.sm_model.specs.Reaching.{id_of_number}
use Rattle.sm_model.specs.declared.graph.Graph.{Graph}
use Rattle.sm_shapes.specs.DefaultPuts.{HasNoDefault}
use Rattle.sm_shapes.specs.Fitting.{Test}
use Rattle.sm_shapes.specs.InOrder.{Shaped, Built}
use Rattle.sm_shapes.specs.TableView.{table_data}
use Rattle.sm_compile.specs.Answers.{IsLeftBehind, IsPatternOfSetRefused, StoreSeen}
use Rattle.sm_compile.specs.Compiled.{AllUnbound, AreNumberedFrom, IsCompiled, NoMediaTypes, Numbering, texts_of}
use Rattle.sm_compile.specs.Reached.{IsReached}
use Rattle.sm_compile.specs.Sound.{IsValueShape, Sound}
use Rattle.sm_compile.specs.declared.compiled.CompileRefusal.{CompileRefusal}
use Rattle.sm_compile.specs.declared.compiled.CompileRefusal.TheVariants.{NoShape, Pattern, NoMemory}
use Rattle.sm_compile.specs.declared.tabled.Tabled.{Tabled}

-- what some of these shapes reaches
abbrev pub IsReachedFromSome : GraphMaps → List (List ℕ) → List ℕ → Type 0
IsReachedFromSome g roots id = (root : List ℕ) × Contains roots root × IsReached g root id

-- shapes of which one table can be made
abbrev pub AreSoundRoots : GraphMaps → List (List ℕ) → Type 0
AreSoundRoots g roots = (root : List ℕ) → Contains roots root → IsValueShape g root × Sound g root

-- a table of these shapes; the numbers of its shapes in the graph stand beside it, in order
pub record IsTableOfRoots (g : Graph) (roots : List ℕ) (test : Test) (before now : StoreSeen) (made : Tabled) : Type 0 where
  pub numbering : Numbering
  pub compiled : IsCompiled (maps_of g) (IsReachedFromSome (maps_of g) (map (id_of_number g) roots)) (table_data made.table) numbering
  pub named : numbering.shapes ≡ map (id_of_number g) made.shapes.items
  pub there : (root : ℕ) → Contains roots root → Contains made.shapes.items root
  pub few : length made.shapes.items < 2 ^ 32
  pub rise : IsStrictlySortedBy nat_cmp made.shapes.items
  pub numbered : AreNumberedFrom (length before.added) (table_data made.table).patterns
  pub unbound : AllUnbound (table_data made.table).members
  pub no_media : NoMediaTypes (table_data made.table).shapes
  pub shaped : Shaped (table_data made.table)
  pub built : Built (table_data made.table) now.added test
  pub no_default : HasNoDefault (table_data made.table)
  pub added : now.added ≡ before.added ++ texts_of (table_data made.table).patterns
  pub refused : now.refused ≡ before.refused
  pub refusals : now.refusals ≡ before.refusals

-- a pattern is refused that what these shapes reach carries
abbrev pub IsPatternOfRootsRefused : GraphMaps → List (List ℕ) → StoreSeen → StoreSeen → List ℕ → Type 0
IsPatternOfRootsRefused g roots before now id = IsPatternOfSetRefused g (IsReachedFromSome g roots) before now id

abbrev pub CompilesRoots : Graph → List ℕ → Test → StoreSeen → StoreSeen → Result Tabled CompileRefusal → Type 0
CompilesRoots g roots test before now (Ok made) = IsTableOfRoots g roots test before now made
CompilesRoots g roots test before now (Err NoShape) = ⊥
CompilesRoots g roots test before now (Err (Pattern id)) = IsPatternOfRootsRefused (maps_of g) (map (id_of_number g) roots) before now id
CompilesRoots g roots test before now (Err NoMemory) = IsLeftBehind before now

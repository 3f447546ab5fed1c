-- One table of all shapes for which a pass checks nodes, and what it tells of a node.
use Rattle.std.specs.Prelude.{◌≡◌, ◌<◌, ◌^◌, ℕ, List, Option, Some, None, Ok, Err, length, map, slice_get}
use Rattle.std.specs.List.{Contains}
use Rattle.std.specs.List.Sorted.{IsStrictlySortedBy}
use Rattle.std.specs.Ordering.{nat_cmp}
use Rattle.sm_tree.specs.Node.{Node}
use Rattle.sm_tree.specs.declared.path.Step.{Step}
use Rattle.sm_model.specs.Graphs.{GraphMaps}
use Rattle.sm_model.specs.GraphView.{IsShapeNumber, maps_of}
use Rattle.sm_model.specs.Reaching.{id_of_number}
use Rattle.sm_model.specs.declared.graph.Graph.{Graph}
use Rattle.sm_shapes.specs.AnyStore.{any_texts}
use Rattle.sm_shapes.specs.Fitting.{any_text}
use Rattle.sm_shapes.specs.InOrder.{AreStored, Shaped}
use Rattle.sm_shapes.specs.Places.{root_place}
use Rattle.sm_shapes.specs.TableData.{TableData, shape_count}
use Rattle.sm_shapes.specs.TableView.{table_data}
use Rattle.sm_shapes.specs.declared.fault.FaultKind.{FaultKind}
use Rattle.sm_codec.specs.Defaults.{filled, node_codec}
use Rattle.sm_codec.specs.FaultLists.{FaultAt, Reading, first_fault}
use Rattle.sm_codec.specs.FilledLaws.{IsFilled}
use Rattle.sm_codec.specs.Readings.{reading}
use Rattle.sm_compile.specs.Compiled.{IsCompiled, Numbering}
use Rattle.sm_compile.specs.Roots.{IsReachedFromSome}
use Rattle.sm_compile.specs.declared.tabled.Tabled.{Tabled}
use Rattle.sm_rules.specs.NodeChecks.{HasNodeFaults, IsChecked}
use Rattle.sm_value_rules.specs.declared.nodes.NodeTable.{NodeTable}

-- the number of a shape for which nodes are checked
abbrev pub IsCheckedNumber : Graph → ℕ → Type 0
IsCheckedNumber g k = IsShapeNumber g k × IsChecked (maps_of g) (id_of_number g k)

-- such numbers, among them each that one of the first so many numbers of the graph wants
pub record AreRoots (g : Graph) (Wants : ℕ → ℕ → Type 0) (n : ℕ) (roots : List ℕ) : Type 0 where
  pub checked : (k : ℕ) → Contains roots k → IsCheckedNumber g k
  pub wanted : (j k : ℕ) → j < n → Wants j k → Contains roots k

-- those that one more number wants are among them too
pub record AddsRoots (g : Graph) (Wanted : ℕ → Type 0) (old now : List ℕ) : Type 0 where
  pub kept : (k : ℕ) → Contains old k → Contains now k
  pub checked : ((k : ℕ) → Contains old k → IsCheckedNumber g k) → (k : ℕ) → Contains now k → IsCheckedNumber g k
  pub wanted : (k : ℕ) → Wanted k → Contains now k

-- a table that is in order, by which nodes are read
pub record IsReadyTable (made : Tabled) (added : List (List ℕ)) : Type 0 where
  pub few : length made.shapes.items < 2 ^ 32
  pub rise : IsStrictlySortedBy nat_cmp made.shapes.items
  pub whole : shape_count (table_data made.table) ≡ length made.shapes.items
  pub fine : IsFilled (table_data made.table) any_text
  pub stored : AreStored (table_data made.table).patterns added

-- the table of some shapes, with all of these among them, and of all that they reach, with the defaults that count
pub record IsTableFor (g : Graph) (Judged : ℕ → Type 0) (made : Tabled) (added : List (List ℕ)) : Type 0 where
  pub ready : IsReadyTable made added
  pub roots : List ℕ
  pub judged : (k : ℕ) → Judged k → Contains roots k
  pub there : (k : ℕ) → Contains roots k → Contains made.shapes.items k
  pub t : TableData
  pub numbering : Numbering
  pub compiled : IsCompiled (maps_of g) (IsReachedFromSome (maps_of g) (map (id_of_number g) roots)) t numbering
  pub shaped : Shaped t
  pub named : numbering.shapes ≡ map (id_of_number g) made.shapes.items
  pub is_filled : table_data made.table ≡ filled t any_text

abbrev pub IsNodeTable : Graph → (ℕ → Type 0) → NodeTable → Type 0
IsNodeTable g Judged nodes = IsTableFor g Judged nodes.tabled (any_texts nodes.patterns)

abbrev pub IsReady : NodeTable → Type 0
IsReady nodes = IsReadyTable nodes.tabled (any_texts nodes.patterns)

abbrev pub IsSameTable : NodeTable → NodeTable → Type 0
IsSameTable old now = (now.tabled ≡ old.tabled) × (any_texts now.patterns ≡ any_texts old.patterns)

-- the kind of the first fault, or that there is none
abbrev pub TellsReading : Reading → Option FaultKind → Type 0
TellsReading (Ok v) None = Unit {0}
TellsReading (Ok v) (Some kind) = ⊥
TellsReading (Err faults) None = ⊥
TellsReading (Err faults) (Some kind) = (path : List Step) × (first_fault faults ≡ Some (path, kind))

-- of a node for the shape with this number in the graph, by the table
abbrev pub TellsRow : Tabled → ℕ → Node → Option FaultKind → Type 0
TellsRow made root n found =
    (row : ℕ) × (slice_get made.shapes.items row ≡ Some root)
    × TellsReading (reading (node_codec (table_data made.table) any_text) n (root_place row)) found

-- the same by the definition
abbrev pub TellsFaults : GraphMaps → List ℕ → Node → Option FaultKind → Type 0
TellsFaults g root n None = (faults : List FaultAt) → HasNodeFaults g root n faults → ⊥
TellsFaults g root n (Some kind) =
    (faults : List FaultAt) × (path : List Step) × HasNodeFaults g root n faults × (first_fault faults ≡ Some (path, kind))

-- The check of a node of a model for a shape: its faults as a value, blobs in base64, defaults filled where they count, and no
-- pattern applied (Smithy 2.0, "trait trait", "default trait", "Node values").
use Rattle.std.specs.Prelude.{◌≡◌, ℕ, List, Some, Err, slice_get}
use Rattle.std.specs.List.{Contains}
use Rattle.sm_tree.specs.Node.{Node}
use Rattle.sm_model.specs.Graphs.{GraphMaps}
use Rattle.sm_shapes.specs.Fitting.{Test, any_text}
use Rattle.sm_shapes.specs.InOrder.{Shaped}
use Rattle.sm_shapes.specs.Places.{root_place}
use Rattle.sm_shapes.specs.TableData.{TableData}
use Rattle.sm_codec.specs.Defaults.{filled, node_codec}
use Rattle.sm_codec.specs.FaultLists.{FaultAt, Reading}
use Rattle.sm_codec.specs.Readings.{reading}
use Rattle.sm_compile.specs.Compiled.{Numbering, IsCompiled}
use Rattle.sm_compile.specs.Roots.{IsReachedFromSome}
use Rattle.sm_compile.specs.Served.{ReachesLeftOut}
use Rattle.sm_compile.specs.Sound.{IsValueShape, Sound}

-- a shape for which nodes are checked: it has values, all that it reaches is in order, and none of it is of a type left out
pub record IsChecked (g : GraphMaps) (root : List ℕ) : Type 0 where
  pub has_values : IsValueShape g root
  pub sound : Sound g root
  pub carried : ReachesLeftOut g root → ⊥

-- a table of these shapes and of all that they reach, in which one of them has this number. Which the others are tells nothing of it
-- (`SameFaults` of Laws)
pub record HasRow (g : GraphMaps) (roots : List (List ℕ)) (t : TableData) (root : List ℕ) (k : ℕ) : Type 0 where
  pub among : Contains roots root
  pub numbering : Numbering
  pub compiled : IsCompiled g (IsReachedFromSome g roots) t numbering
  pub shaped : Shaped t
  pub number : slice_get numbering.shapes k ≡ Some root

-- what a node comes to for the shape with this number, by this test of patterns
abbrev pub node_reading : TableData → Test → Node → ℕ → Reading
node_reading t test n k = reading (node_codec (filled t test) test) n (root_place k)

-- a node has these faults for a shape
pub record HasNodeFaults (g : GraphMaps) (root : List ℕ) (n : Node) (faults : List FaultAt) : Type 0 where
  pub checked : IsChecked g root
  pub roots : List (List ℕ)
  pub t : TableData
  pub k : ℕ
  pub row : HasRow g roots t root k
  pub faulty : node_reading t any_text n k ≡ Err faults

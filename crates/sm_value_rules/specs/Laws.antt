-- Laws of the check of nodes: what a node comes to for a shape is one thing in all tables that have the shape, whatever else they have.
use Rattle.std.specs.Prelude.{◌≡◌, ℕ, List, Err}
use Rattle.sm_tree.specs.Node.{Node}
use Rattle.sm_model.specs.Graphs.{GraphMaps}
use Rattle.sm_shapes.specs.Fitting.{Test, any_text}
use Rattle.sm_shapes.specs.TableData.{TableData}
use Rattle.sm_codec.specs.FaultLists.{FaultAt, faults_in}
use Rattle.sm_rules.specs.NodeChecks.{HasNodeFaults, HasRow, node_reading}

-- two tables that say what the graph says of all that a shape reaches give a node one list of faults for it, by one test of patterns
abbrev pub SameFaults : Type 0
SameFaults = (g : GraphMaps) (roots others : List (List ℕ)) (root : List ℕ) (t u : TableData) (j k : ℕ) → HasRow g roots t root j
    → HasRow g others u root k → (test : Test) (n : Node) → faults_in (node_reading u test n k) ≡ faults_in (node_reading t test n j)

-- so a node that has faults for a shape has them by each such table
abbrev pub FaultsByEach : Type 0
FaultsByEach = (g : GraphMaps) (root : List ℕ) (n : Node) (faults : List FaultAt) → HasNodeFaults g root n faults
    → (roots : List (List ℕ)) (t : TableData) (k : ℕ) → HasRow g roots t root k → node_reading t any_text n k ≡ Err faults

-- and has one list of them
abbrev pub OneFaultList : Type 0
OneFaultList = (g : GraphMaps) (root : List ℕ) (n : Node) (one other : List FaultAt) → HasNodeFaults g root n one
    → HasNodeFaults g root n other → one ≡ other

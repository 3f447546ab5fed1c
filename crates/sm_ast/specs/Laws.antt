-- What ties the definitions of a model together: the relation between trees and statements, the first fault of a tree, and the
-- tree that is written for a graph.
use Rattle.std.specs.Prelude.{◌≡◌, ◌↔◌, ℕ, List, None}
use Rattle.sm_tree.specs.Node.{Node}
use Rattle.sm_tree.specs.Json.{IsJson}
use Rattle.sm_model.specs.Given.{AreGiven}
use Rattle.sm_model.specs.Graphs.{ShapeGiven, graph_of}
use Rattle.sm_model.specs.Said.{Said}
use Rattle.sm_ast.specs.Ast.{Ast}
use Rattle.sm_ast.specs.Faults.{ast_fault}
use Rattle.sm_ast.specs.GraphSaid.{graph_said}
use Rattle.sm_model.specs.Named.{AreNamed}
use Rattle.sm_ast.specs.Written.{written_ast}

-- a tree of JSON says statements exactly where it has no fault
abbrev pub SaysOrFails : Type 0
SaysOrFails = (n : Node) → IsJson n → (ast_fault n ≡ None) ↔ ((said : List Said) × Ast said n)

-- and then one list of statements
abbrev pub OneReading : Type 0
OneReading = (one other : List Said) (n : Node) → Ast one n → Ast other n → one ≡ other

-- the tree that is written for a graph is one of JSON, as a writer of JSON asks
abbrev pub WrittenIsJson : Type 0
WrittenIsJson = (shapes : List ShapeGiven) (metadata : List (List ℕ × Node)) → AreGiven shapes metadata → AreNamed shapes metadata
    → IsJson (written_ast (graph_of shapes metadata))

-- and it says the statements of the graph
abbrev pub WrittenSays : Type 0
WrittenSays = (shapes : List ShapeGiven) (metadata : List (List ℕ × Node)) → AreGiven shapes metadata → AreNamed shapes metadata
    → Ast (graph_said (graph_of shapes metadata)) (written_ast (graph_of shapes metadata))

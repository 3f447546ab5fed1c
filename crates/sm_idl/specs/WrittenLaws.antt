-- The law of the text that is written for a namespace: it is the text of a file, and of which.
use Rattle.std.specs.Prelude.{ℕ, List}
use Rattle.sm_ids.specs.Identifier.{IsNamespace}
use Rattle.sm_tree.specs.Node.{Node}
use Rattle.sm_model.specs.Given.{AreGiven}
use Rattle.sm_model.specs.Graphs.{ShapeGiven, graph_of}
use Rattle.sm_idl.specs.Idl.{Idl}
use Rattle.sm_idl.specs.Written.{written_idl}
use Rattle.sm_idl.specs.WrittenFile.{namespace_file}
use Rattle.sm_model.specs.Named.{AreNamed}
use Rattle.sm_idl.specs.WrittenNames.{AreFew}

-- what is written for a namespace of a graph is the text of the namespace's file
abbrev pub WrittenIsFile : Type 0
WrittenIsFile = (shapes : List ShapeGiven) (metadata : List (List ℕ × Node)) (namespace : List ℕ) → AreGiven shapes metadata
    → AreNamed shapes metadata → AreFew shapes metadata → IsNamespace namespace
    → Idl (namespace_file (graph_of shapes metadata) namespace) (written_idl (graph_of shapes metadata) namespace)

-- That what a change makes of a model that is accepted is a model to work on: it may be changed again, and, written, it loads to itself.
use Rattle.std.specs.Prelude.{◌≤◌, ℕ, List, [], ◌∷◌, Ok}
use Rattle.sm_tree.specs.Levels.{levels}
use Rattle.sm_tree.specs.Limits.{most_levels}
use Rattle.sm_model.specs.FormedGraph.{IsFormedGraph}
use Rattle.sm_model.specs.GraphView.{maps_of}
use Rattle.sm_model.specs.Graphs.{GraphMaps}
use Rattle.sm_ast.specs.Written.{written_ast}
use Rattle.sm_again.specs.load.Loading.{AreAccepted, LoadsTo}
use Rattle.sm_again.specs.load.ModelFiles.{EndsInJson, FileGiven, file_given}
use Rattle.sm_again.specs.load.declared.model.Model.{Model}
use Rattle.sm_again.specs.LoadsAgain.{ast_text}
use Rattle.sm_transform.specs.Changed.{Change}
use Rattle.sm_transform.specs.Renamed.{HasTraitIds}
use Rattle.sm_transformed.specs.Transformed.{IsSaid, TransformsTo}

-- the graph of the model that a change makes may be changed, as that of each model that is accepted
abbrev pub ChangedMayChange : Type 0
ChangedMayChange =
    (files : List FileGiven) (g : GraphMaps) (change : Change) (m : Model) → AreAccepted files g → IsSaid change
    → TransformsTo g change (Ok m) → IsFormedGraph (maps_of m.graph) × HasTraitIds (maps_of m.graph)

-- the file of its text in the JSON AST alone loads to it: to its graph, with its events; its tree nests no more levels than are read
abbrev pub ChangedLoads : Type 0
ChangedLoads =
    (files : List FileGiven) (g : GraphMaps) (change : Change) (m : Model) (name : List ℕ) → AreAccepted files g → IsSaid change
    → TransformsTo g change (Ok m) → levels (written_ast (maps_of m.graph)) ≤ most_levels → EndsInJson name
    → LoadsTo (file_given name (ast_text (maps_of m.graph)) ∷ []) (Ok m)

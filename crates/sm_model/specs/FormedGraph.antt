-- A graph that is made of shapes as `Graph::build` takes them, those of the prelude among them. It says what no rule says: that shapes have
-- the members and the fields of their types, and that ids and names are what they stand for.
use Rattle.std.specs.Prelude.{ℕ, List}
use Rattle.std.specs.List.{Contains}
use Rattle.sm_tree.specs.Node.{Node}
use Rattle.sm_model.specs.Given.{AreGiven}
use Rattle.sm_model.specs.Graphs.{GraphMaps, ShapeGiven, graph_of}
use Rattle.sm_model.specs.PreludeShapes.{prelude_shapes}

pub record IsFormedGraph (g : GraphMaps) : Type 0 where
  pub shapes : List ShapeGiven
  pub metadata : List (List ℕ × Node)
  pub given : AreGiven shapes metadata
  pub prelude : (s : ShapeGiven) → Contains prelude_shapes s → Contains shapes s
  pub is : Path GraphMaps g (graph_of shapes metadata)

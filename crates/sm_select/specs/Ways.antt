-- What is looked up once for all steps along the links of a graph: the links, and where a step leads to and from at each number.
use Rattle.std.specs.Prelude.{◌≡◌, ◌↔◌, ℕ, Bool, true, false, List, length}
use Rattle.sm_model.specs.GraphView.{IsShapeNumber, entries_of, maps_of}
use Rattle.sm_model.specs.Links.{AreLinks}
use Rattle.sm_model.specs.Relations.{IsNeighbor}
use Rattle.sm_model.specs.Reaching.{id_of_number}
use Rattle.sm_model.specs.declared.graph.Graph.{Graph}
use Rattle.sm_select.specs.Images.{turned}
use Rattle.sm_select.specs.Neighbors.{HasStep}
use Rattle.sm_select.specs.declared.ways.Ways.{Ways}

-- these lists are the steps between the numbers of the graph, or with `back` those against their direction
pub record AreSteps (g : Graph) (back : Bool) (rows : List (List ℕ)) : Type 0 where
  pub whole : length rows ≡ length (entries_of g)
  pub steps : (a b : ℕ) → HasStep rows a b
      ↔ (IsShapeNumber g a × IsShapeNumber g b × turned back (IsNeighbor (maps_of g)) (id_of_number g a) (id_of_number g b))

pub record AreWays (g : Graph) (ways : Ways) : Type 0 where
  pub are_links : AreLinks g ways.links.items
  pub are_on : AreSteps g false ways.on
  pub are_back : AreSteps g true ways.back

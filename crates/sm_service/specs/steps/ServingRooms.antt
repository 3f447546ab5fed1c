-- Room for walks over a graph, and what they told of shapes, by the shapes' numbers in the graph.
use Rattle.std.specs.Prelude.{◌≡◌, ℕ, List, Option, None, IfSome, get_or, length}
use Rattle.sm_model.specs.GraphView.{entries_of, maps_of}
use Rattle.sm_model.specs.Reaching.{id_of_number}
use Rattle.sm_model.specs.declared.graph.Graph.{Graph}
use Rattle.sm_compile.specs.Answers.{TellsServed}
use Rattle.sm_compile.specs.WayRooms.{IsRoomFor}
use Rattle.sm_compile.specs.declared.compiled.Served.{Served}
use Rattle.sm_compile.specs.declared.compiled.Served.TheVariants.{Yes, Unserved}
use Rattle.sm_service.specs.declared.serving_room.ServingRoom.{ServingRoom}
use Rattle.sm_service.specs.declared.serving_room.ShapeServed.{ShapeServed}
use Rattle.sm_service.specs.declared.serving_room.ShapeServed.TheVariants as shape

-- what is told of a shape, as data
abbrev pub shape_said : ShapeServed → Served
shape_said shape.Yes = Yes
shape_said (shape.Unserved way) = Unserved way.value

-- there is a place for each number of the graph, and what is kept there is so of the shape at the number
pub record AreTold (g : Graph) (told : List (Option ShapeServed)) : Type 0 where
  pub whole : length told ≡ length (entries_of g)
  pub so : (k : ℕ) → IfSome (get_or told k None) (λ s. TellsServed (maps_of g) (id_of_number g k) (shape_said s))

abbrev pub IsServingRoom : Graph → ServingRoom → Type 0
IsServingRoom g room = IsRoomFor g room.walks × AreTold g room.told.items

-- Room in which walks over a graph go, one after the other, and what is known to be served before they go.
use Rattle.std.specs.Prelude.{◌≡◌, ℕ, Bool, false, List, [], length, replicate}
use Rattle.sm_model.specs.GraphView.{entries_of, maps_of}
use Rattle.sm_model.specs.Reaching.{IsMarked, id_of_number}
use Rattle.sm_model.specs.declared.graph.Graph.{Graph}
use Rattle.sm_compile.specs.Served.{IsServed}
use Rattle.sm_compile.specs.declared.way.Walk.{Walk}
use Rattle.sm_compile.specs.declared.way_room.WayRoom.{WayRoom}

-- there is a mark for each number of the graph, and all that a marked one reaches is served
pub record AreKnownServed (g : Graph) (known : List Bool) : Type 0 where
  pub whole : length known ≡ length (entries_of g)
  pub served : (k : ℕ) → IsMarked known k → IsServed (maps_of g) (id_of_number g k)

-- there is a mark for each number of the graph, none is set, and nothing is kept of a walk but what is known before it
pub record IsClearWalk (g : Graph) (w : Walk) : Type 0 where
  pub marks : w.marks.items ≡ replicate (length (entries_of g)) false
  pub entered : w.entered.items ≡ []
  pub above : w.above.items ≡ []
  pub known : AreKnownServed g w.known.items

abbrev pub IsRoomFor : Graph → WayRoom → Type 0
IsRoomFor g room = IsClearWalk g room.walk

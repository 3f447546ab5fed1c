use Rattle.std.proofs.Common.{◌≡◌, ◌++◌, drop, map}
use Rattle.sm_model.specs.GraphView.{AreShapeNumbers, maps_of}
use Rattle.sm_model.specs.Reaching.{id_of_number}
use Rattle.sm_schema.specs.NotesView.{shape_notes_data}
use Rattle.sm_notes.specs.NotesSaid.{said_of_shape}
use Rattle.sm_notes.proofs.notes.shapes_said.Given as goal

abbrev pub invariant-loop-shape : goal.invariant-loop-shape
invariant-loop-shape l = record {
  numbers : AreShapeNumbers l.graph (drop l.shape-index l.shapes);
  said : map shape_notes_data l.said.items
      ++ map (said_of_shape (maps_of l.graph)) (map (id_of_number l.graph) (drop l.shape-index l.shapes))
      ≡ map (said_of_shape (maps_of l.graph)) (map (id_of_number l.graph) l.shapes);
}

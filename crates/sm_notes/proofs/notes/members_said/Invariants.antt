use Rattle.std.proofs.Common.{◌≡◌, ◌++◌, drop, map}
use Rattle.std.specs.List.{flat_map}
use Rattle.sm_model.specs.GraphView.{AreShapeNumbers, maps_of}
use Rattle.sm_model.specs.Reaching.{id_of_number}
use Rattle.sm_compile.specs.Compiled.{members_under}
use Rattle.sm_schema.specs.NotesView.{member_notes_data}
use Rattle.sm_notes.specs.NotesSaid.{said_of_member}
use Rattle.sm_notes.proofs.notes.members_said.Given as goal

abbrev pub invariant-loop-shape : goal.invariant-loop-shape
invariant-loop-shape l = record {
  numbers : AreShapeNumbers l.graph (drop l.shape-index l.shapes);
  said : map member_notes_data l.said.items
      ++ map (said_of_member (maps_of l.graph))
      (flat_map (members_under (maps_of l.graph)) (map (id_of_number l.graph) (drop l.shape-index l.shapes)))
      ≡ map (said_of_member (maps_of l.graph)) (flat_map (members_under (maps_of l.graph)) (map (id_of_number l.graph) l.shapes));
}

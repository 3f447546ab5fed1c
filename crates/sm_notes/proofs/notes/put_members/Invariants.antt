use Rattle.std.proofs.Common.{◌≡◌, ◌++◌, drop, map}
use Rattle.sm_model.specs.GraphView.{AreShapeNumbers, maps_of}
use Rattle.sm_model.specs.Reaching.{id_of_number}
use Rattle.sm_schema.specs.NotesView.{member_notes_data}
use Rattle.sm_notes.specs.NotesSaid.{said_of_member}
use Rattle.sm_notes.proofs.notes.put_members.Given as goal

abbrev pub invariant-loop-member : goal.invariant-loop-member
invariant-loop-member l = record {
  numbers : AreShapeNumbers l.graph (drop l.member-index l.members);
  said : map member_notes_data l.said.items
      ++ map (said_of_member (maps_of l.graph)) (map (id_of_number l.graph) (drop l.member-index l.members))
      ≡ map member_notes_data l.fn.said.items ++ map (said_of_member (maps_of l.graph)) (map (id_of_number l.graph) l.members);
}

-- What is said of the shapes of a table and of their members is said by their numbers; two numberings of one shape say the same.
use Rattle.std.proofs.Common.{ℕ, List, map, ap, sym, ◌∙◌}
use Rattle.std.specs.Cmp.Lexicographic.{nat_list_cmp_total}
use Rattle.std.specs.List.{flat_map}
use Rattle.sm_model.specs.Graphs.{GraphMaps}
use Rattle.sm_model.proofs.OneRising.{one_rising}
use Rattle.sm_shapes.specs.TableData.{TableData}
use Rattle.sm_compile.specs.Compiled.{IsCompiled, Numbering, members_under}
use Rattle.sm_compile.specs.Reached.{IsReached}
use Rattle.sm_compile.proofs.OneTable.{one_numbering}
use Rattle.sm_schema.specs.Noted.{NotesData}
use Rattle.sm_notes.specs.NotesSaid.{notes_said, said_of_member, said_of_shape}
use Rattle.sm_notes.specs.TableShapes.{AreNotesOf}

pub notes_numbered : (g : GraphMaps) (root : List ℕ) (t : TableData) (n : Numbering) → IsCompiled g (IsReached g root) t n
    → (notes : NotesData) → AreNotesOf g root notes → Path NotesData notes (notes_said g n)
notes_numbered g root t n h notes of =
    let shapes = one_rising nat_list_cmp_total of.ids n.shapes of.shapes.rise h.shapes_rise (λ id. (
      λ there. (h.shapes id).1 ((of.shapes.are id).0 there),
      λ there. (of.shapes.are id).1 ((h.shapes id).0 there),
    )) in
    let members = ap (flat_map (members_under g)) shapes ∙ sym h.members_follow in
    let same : Path NotesData (record { shapes = map (said_of_shape g) of.ids; members = map (said_of_member g) (flat_map (members_under g) of.ids) })
    (notes_said g n) = λ i. record { shapes = map (said_of_shape g) (shapes i); members = map (said_of_member g) (members i) } in
    of.are ∙ same

pub one_said : (g : GraphMaps) (root : List ℕ) (t u : TableData) (n m : Numbering) → IsCompiled g (IsReached g root) t n
    → IsCompiled g (IsReached g root) u m → Path NotesData (notes_said g n) (notes_said g m)
one_said g root t u n m h k = ap (notes_said g) (one_numbering g (IsReached g root) t u n m h k)

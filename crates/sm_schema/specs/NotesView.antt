-- Notes of the code as data.
use Rattle.std.specs.Prelude.{map}
use Rattle.std.specs.Option.{option_copied}
use Rattle.sm_schema.specs.Noted.{MemberNotesData, NotesData, ShapeNotesData}
use Rattle.sm_schema.specs.declared.notes.MemberNotes.{MemberNotes}
use Rattle.sm_schema.specs.declared.notes.Notes.{Notes}
use Rattle.sm_schema.specs.declared.notes.ShapeNotes.{ShapeNotes}

abbrev pub shape_notes_data : ShapeNotes → ShapeNotesData
shape_notes_data s = record { title = s.title.now; description = option_copied s.description; deprecated = s.deprecated }

abbrev pub member_notes_data : MemberNotes → MemberNotesData
member_notes_data m = record { description = option_copied m.description; deprecated = m.deprecated }

abbrev pub notes_data : Notes → NotesData
notes_data n = record { shapes = map shape_notes_data n.shapes.items; members = map member_notes_data n.members.items }

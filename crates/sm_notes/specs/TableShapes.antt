-- The ids of the shapes of the table of what a shape reaches, in their order there; and that notes are what the graph says of them and of
-- their members.
use Rattle.std.specs.Prelude.{◌↔◌, ℕ, List, map}
use Rattle.std.specs.List.{Contains, flat_map}
use Rattle.std.specs.List.Sorted.{IsStrictlySortedBy}
use Rattle.sm_model.specs.Graphs.{GraphMaps, text_cmp}
use Rattle.sm_compile.specs.Compiled.{IsTabled, members_under}
use Rattle.sm_compile.specs.Reached.{IsReached}
use Rattle.sm_schema.specs.Noted.{NotesData}
use Rattle.sm_notes.specs.NotesSaid.{said_of_member, said_of_shape}

pub record AreTableShapes (g : GraphMaps) (root : List ℕ) (ids : List (List ℕ)) : Type 0 where
  pub are : (id : List ℕ) → Contains ids id ↔ IsTabled g (IsReached g root) id
  pub rise : IsStrictlySortedBy text_cmp ids

-- the members follow shape by shape
abbrev pub notes_by : GraphMaps → List (List ℕ) → NotesData
notes_by g ids = record { shapes = map (said_of_shape g) ids; members = map (said_of_member g) (flat_map (members_under g) ids) }

pub record AreNotesOf (g : GraphMaps) (root : List ℕ) (notes : NotesData) : Type 0 where
  pub ids : List (List ℕ)
  pub shapes : AreTableShapes g root ids
  pub are : Path NotesData notes (notes_by g ids)

-- Two tables of a shape have the same notes.
use Rattle.std.proofs.Common.{ℕ, List, [], ◌∷◌, subst, ◌∙◌}
use Rattle.sm_model.specs.Graphs.{GraphMaps}
use Rattle.sm_compile.specs.Compiled.{IsCompiled}
use Rattle.sm_compile.specs.Reached.{IsReached}
use Rattle.sm_notes.specs.NotesSaid.{notes_said}
use Rattle.sm_notes.proofs.NotesNumbered.{one_said}
use Rattle.sm_schema.specs.Noted.{NotesData}
use Rattle.sm_asked_shape.specs.asked.Stages.{Told}
use Rattle.sm_asked_shape.proofs.asked.ToldAll.{IsToldWhole}
use Rattle.sm_asked_shape.specs.ShapeStages.{TableMade}
use Rattle.sm_schema_command.specs.Schema.{notes_of}

pub notes_same : (t : Told) → IsToldWhole t → (name shape : List ℕ) (h i : TableMade t name shape)
    → Path NotesData (notes_of t name shape h) (notes_of t name shape i)
notes_same t whole name shape h i =
    let graphs : Path GraphMaps h.there.loaded.graph i.there.loaded.graph = whole.graphs (name ∷ []) h.there.loaded i.there.loaded in
    let moved : Path NotesData (notes_said h.there.loaded.graph h.compiled.numbering)
    (notes_said i.there.loaded.graph h.compiled.numbering) = λ j. notes_said (graphs j) h.compiled.numbering in
    moved ∙ one_said i.there.loaded.graph shape h.one.table i.one.table h.compiled.numbering i.compiled.numbering
    (subst (λ g. IsCompiled g (IsReached g shape) h.one.table h.compiled.numbering) graphs h.compiled.compiled) i.compiled.compiled

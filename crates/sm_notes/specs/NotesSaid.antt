-- What a graph says to people of the shapes and the members of a table (Smithy 2.0, "Documentation traits": "documentation trait",
-- "deprecated trait"). The title of a shape is its id. A member's documentation is its own: that of its target stands at the target.
use Rattle.std.specs.Prelude.{ℕ, List, codes, is_some, map}
use Rattle.sm_model.specs.Graphs.{GraphMaps}
use Rattle.sm_model.specs.PreludeShapes.{api_id}
use Rattle.sm_compile.specs.Compiled.{Numbering}
use Rattle.sm_compile.specs.Sound.{trait_of}
use Rattle.sm_compile.specs.TraitNodes.{text_of}
use Rattle.sm_schema.specs.Noted.{MemberNotesData, NotesData, ShapeNotesData}

abbrev pub documentation_id : List ℕ
documentation_id = api_id (codes "documentation")

abbrev pub deprecated_id : List ℕ
deprecated_id = api_id (codes "deprecated")

abbrev pub said_of_shape : GraphMaps → List ℕ → ShapeNotesData
said_of_shape g id = record {
  title = id;
  description = text_of (trait_of g id documentation_id);
  deprecated = is_some (trait_of g id deprecated_id);
}

abbrev pub said_of_member : GraphMaps → List ℕ → MemberNotesData
said_of_member g id = record {
  description = text_of (trait_of g id documentation_id);
  deprecated = is_some (trait_of g id deprecated_id);
}

abbrev pub notes_said : GraphMaps → Numbering → NotesData
notes_said g n = record { shapes = map (said_of_shape g) n.shapes; members = map (said_of_member g) n.members }

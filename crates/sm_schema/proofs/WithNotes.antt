-- With notes or without, what is written is what the definitions say.
use Rattle.std.proofs.Common.{◌≡◌, ℕ, suc, Bool, List, [], ◌∷◌, Some, None, refl, ap, ◌∙◌, codes}
use Rattle.sm_tree.specs.Node.{Node, Members, text, object, no_members, member}
use Rattle.sm_shapes.specs.TableData.{TableData}
use Rattle.sm_shapes.specs.Places.{Place, kind_of}
use Rattle.sm_shapes.specs.declared.kinds.ShapeKind.{ShapeKind}
use Rattle.sm_shapes.specs.declared.kinds.ShapeKind.TheVariants as kinds
use Rattle.sm_schema.specs.Definitions.{Listing, definition_name, reference_text}
use Rattle.sm_schema.specs.Described.{IsSchema, definition_by, definitions, schema_tree}
use Rattle.sm_schema.specs.Noted.{IsNotedSchema, NotesData, before_shape, keywords_by, noted, noted_definitions}
use Rattle.sm_schema.specs.SchemaLaws.{HasFew}
use Rattle.sm_schema.specs.steps.WithNotes.{IsTreeFor, definitions_for, keywords_for}

keywords_plain : (kind : ShapeKind) (d : Listing) (p : Place) → keywords_for kind None d p ≡ definition_by kind d p
keywords_plain kinds.Structure d p = refl
keywords_plain kinds.Union d p = refl
keywords_plain kinds.Blob d p = refl
keywords_plain kinds.Boolean d p = refl
keywords_plain kinds.Text d p = refl
keywords_plain kinds.Enum d p = refl
keywords_plain kinds.Byte d p = refl
keywords_plain kinds.Short d p = refl
keywords_plain kinds.Integer d p = refl
keywords_plain kinds.IntEnum d p = refl
keywords_plain kinds.Long d p = refl
keywords_plain kinds.Timestamp d p = refl
keywords_plain kinds.List d p = refl
keywords_plain kinds.Map d p = refl
keywords_plain kinds.LeftOut d p = refl

keywords_noted : (kind : ShapeKind) (notes : NotesData) (d : Listing) (p : Place)
    → keywords_for kind (Some notes) d p ≡ keywords_by kind notes d p
keywords_noted kinds.Structure notes d p = refl
keywords_noted kinds.Union notes d p = refl
keywords_noted kinds.Blob notes d p = refl
keywords_noted kinds.Boolean notes d p = refl
keywords_noted kinds.Text notes d p = refl
keywords_noted kinds.Enum notes d p = refl
keywords_noted kinds.Byte notes d p = refl
keywords_noted kinds.Short notes d p = refl
keywords_noted kinds.Integer notes d p = refl
keywords_noted kinds.IntEnum notes d p = refl
keywords_noted kinds.Long notes d p = refl
keywords_noted kinds.Timestamp notes d p = refl
keywords_noted kinds.List notes d p = refl
keywords_noted kinds.Map notes d p = refl
keywords_noted kinds.LeftOut notes d p = refl

definitions_plain : (d : Listing) (k : ℕ) (ps : List Place) → definitions_for None d k ps ≡ definitions d k ps
definitions_plain d k [] = refl
definitions_plain d k (p ∷ ps) =
    ap (λ n. member (definition_name k) n (definitions_for None d (suc k) ps)) (keywords_plain (kind_of d.table p) d p)
    ∙ ap (member (definition_name k) (definition_by (kind_of d.table p) d p)) (definitions_plain d (suc k) ps)

definitions_noted : (notes : NotesData) (d : Listing) (k : ℕ) (ps : List Place)
    → definitions_for (Some notes) d k ps ≡ noted_definitions notes d k ps
definitions_noted notes d k [] = refl
definitions_noted notes d k (p ∷ ps) =
    ap (λ n. member (definition_name k) (noted (before_shape notes d p) n) (definitions_for (Some notes) d (suc k) ps))
    (keywords_noted (kind_of d.table p) notes d p)
    ∙ ap (member (definition_name k) (noted (before_shape notes d p) (keywords_by (kind_of d.table p) notes d p)))
    (definitions_noted notes d (suc k) ps)

abbrev tree_with : Members → Node
tree_with ms =
    object (member (codes "$schema") (text (codes "https://json-schema.org/draft/2020-12/schema")) (
    member (codes "$ref") (text (reference_text 0)) (
    member (codes "$defs") (object ms) no_members)))

pub is_schema : (t : TableData) (json_names : Bool) (s : ℕ) (tree : Node) → IsTreeFor t json_names None s tree
    → (is : IsSchema t json_names s tree) × HasFew t json_names s tree is
is_schema t json_names s tree h =
    let d : Listing = record { table = t; json_names = json_names; places = h.places } in (
      record {
        places = h.places;
        turns = h.turns;
        listed = h.listed;
        is = h.is ∙ ap tree_with (definitions_plain d 0 h.places);
      },
      h.few,
    )

pub is_noted_schema : (t : TableData) (json_names : Bool) (notes : NotesData) (s : ℕ) (tree : Node)
    → IsTreeFor t json_names (Some notes) s tree → IsNotedSchema t json_names notes s tree
is_noted_schema t json_names notes s tree h =
    let d : Listing = record { table = t; json_names = json_names; places = h.places } in record {
      places = h.places;
      turns = h.turns;
      listed = h.listed;
      is = h.is ∙ ap tree_with (definitions_noted notes d 0 h.places);
    }

-- the schema without the notes
abbrev pub plain_of : (t : TableData) (json_names : Bool) (notes : NotesData) (s : ℕ) (tree : Node)
    → IsTreeFor t json_names (Some notes) s tree → Node
plain_of t json_names notes s tree h = schema_tree (record { table = t; json_names = json_names; places = h.places })

pub plain_schema : (t : TableData) (json_names : Bool) (notes : NotesData) (s : ℕ) (tree : Node)
    (h : IsTreeFor t json_names (Some notes) s tree)
    → (is : IsSchema t json_names s (plain_of t json_names notes s tree h))
    × HasFew t json_names s (plain_of t json_names notes s tree h) is
plain_schema t json_names notes s tree h =
    (record { places = h.places; turns = h.turns; listed = h.listed; is = refl }, h.few)

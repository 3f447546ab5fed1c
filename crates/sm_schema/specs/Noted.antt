-- The schema of a shape with what people read in it: annotations (JSON Schema 2020-12, "Validation", 7.3, 8.3, and 9.1 to 9.3), which refuse
-- no instance. What is said of a shape stands before the other keywords of its definition, what is said of a member of a structure or a
-- union before those of its schema.
use Rattle.std.specs.Prelude.{◌≡◌, ℕ, suc, Bool, true, false, cond, List, [], ◌∷◌, Option, Some, None, unwrap_or, get_or, codes}
use Rattle.sm_time.specs.declared.format.Format.{Format}
use Rattle.sm_time.specs.declared.format.Format.TheVariants.{DateTime, HttpDate, EpochSeconds}
use Rattle.sm_tree.specs.Node.{Node, Members, bool, text, list, object, no_members, member}
use Rattle.sm_shapes.specs.TableData.{TableData, default_at}
use Rattle.sm_shapes.specs.Places.{Place, root_place, member_place, shape_of, kind_of, members_of_place, format_of}
use Rattle.sm_shapes.specs.Values.{Val}
use Rattle.sm_shapes.specs.declared.kinds.ShapeKind.{ShapeKind}
use Rattle.sm_shapes.specs.declared.kinds.ShapeKind.TheVariants as kinds
use Rattle.sm_codec.specs.Conventions.{json_convention}
use Rattle.sm_codec.specs.Encoded.{are_none}
use Rattle.sm_codec.specs.Written.{uncarried, written}
use Rattle.sm_schema.specs.Definitions.{Listed, Listing, definition_name, reference_text}
use Rattle.sm_schema.specs.Described.{choice_schema, choices, definition_by, member_schema, required_names, schemas_under, typed, with_required}

-- what a model says to people of a shape: its title, what its documentation says, and whether it is deprecated; and of a member
pub record ShapeNotesData : Type 0 where
  pub title : List ℕ
  pub description : Option (List ℕ)
  pub deprecated : Bool

pub record MemberNotesData : Type 0 where
  pub description : Option (List ℕ)
  pub deprecated : Bool

-- of the shapes and the members of a table, by number
pub record NotesData : Type 0 where
  pub shapes : List ShapeNotesData
  pub members : List MemberNotesData

abbrev pub no_shape_notes : ShapeNotesData
no_shape_notes = record { title = []; description = None; deprecated = false }

abbrev pub no_member_notes : MemberNotesData
no_member_notes = record { description = None; deprecated = false }

abbrev pub shape_notes : NotesData → ℕ → ShapeNotesData
shape_notes notes s = get_or notes.shapes s no_shape_notes

abbrev pub member_notes : NotesData → ℕ → MemberNotesData
member_notes notes k = get_or notes.members k no_member_notes

-- annotations that stand only where something is said
abbrev pub with_text : List ℕ → Option (List ℕ) → Members → Members
with_text name None more = more
with_text name (Some u) more = member name (text u) more

abbrev pub with_tree : List ℕ → Option Node → Members → Members
with_tree name None more = more
with_tree name (Some n) more = member name n more

abbrev pub with_deprecated : Bool → Members → Members
with_deprecated deprecated more = cond deprecated (member (codes "deprecated") (bool true) more) more

-- "format" of timestamps where JSON Schema has a name for it ("date-time", 7.3.1), and "contentEncoding" of bytes (8.3)
abbrev pub with_format : Format → Members → Members
with_format DateTime more = member (codes "format") (text (codes "date-time")) more
with_format HttpDate more = more
with_format EpochSeconds more = more

abbrev pub with_form : ShapeKind → Format → Members → Members
with_form kinds.Timestamp format more = with_format format more
with_form kinds.Blob format more = member (codes "contentEncoding") (text (codes "base64")) more
with_form kind format more = more

-- the annotations of a definition before its keywords
abbrev pub with_shape_notes : ShapeNotesData → ShapeKind → Format → Members → Members
with_shape_notes s kind format more =
    member (codes "title") (text s.title) (with_text (codes "description") s.description (
    with_deprecated s.deprecated (with_form kind format more)))

abbrev pub before_shape : NotesData → Listing → Place → Members → Members
before_shape notes d p more =
    with_shape_notes (shape_notes notes (shape_of d.table p)) (kind_of d.table p)
    (unwrap_or (format_of d.table p) EpochSeconds) more

-- Those of the schema of a member. Its default is the tree that a body has for it; there is none where no default counts, and where JSON has
-- no text for it: an http-date has none of a fraction of a second, and none before 1970.
abbrev pub default_spelled : Listing → ℕ → Option Val → Option Node
default_spelled d k None = None
default_spelled d k (Some v) =
    cond (are_none (uncarried d.table (json_convention d.json_names) (member_place k) v))
    (Some (written d.table (json_convention d.json_names) (member_place k) v)) None

abbrev pub default_tree : Listing → ℕ → Option Node
default_tree d k = default_spelled d k (default_at d.table k)

abbrev pub with_member_notes : MemberNotesData → Option Node → Members → Members
with_member_notes m default more =
    with_text (codes "description") m.description (with_tree (codes "default") default (with_deprecated m.deprecated more))

abbrev pub before_member : NotesData → Listing → ℕ → Members → Members
before_member notes d k more = with_member_notes (member_notes notes k) (default_tree d k) more

-- a schema with annotations before its keywords: `true` and `false` have none
abbrev pub noted : (Members → Members) → Node → Node
noted before (object ms) = object (before ms)
noted before n = n

abbrev pub noted_member : NotesData → Listing → (ℕ → Node) → ℕ → Node
noted_member notes d schema k = noted (before_member notes d k) (schema k)

-- the keywords of a structure and of a union whose members have these schemas
abbrev pub structure_with : Listing → Place → (ℕ → Node) → Node
structure_with d p schema =
    typed (codes "object") (
    member (codes "properties") (object (schemas_under d (shape_of d.table p) schema (members_of_place d.table p))) (
    with_required (required_names d (shape_of d.table p) (members_of_place d.table p))))

abbrev pub union_with : Listing → Place → (ℕ → Node) → Node
union_with d p schema =
    typed (codes "object") (
    member (codes "properties") (object (schemas_under d (shape_of d.table p) schema (members_of_place d.table p))) (
    member (codes "oneOf") (list (choices d (shape_of d.table p) (members_of_place d.table p))) no_members))

abbrev pub keywords_by : ShapeKind → NotesData → Listing → Place → Node
keywords_by kinds.Structure notes d p = structure_with d p (noted_member notes d (member_schema d))
keywords_by kinds.Union notes d p = union_with d p (noted_member notes d (choice_schema d))
keywords_by kind notes d p = definition_by kind d p

abbrev pub noted_definition : NotesData → Listing → Place → Node
noted_definition notes d p = noted (before_shape notes d p) (keywords_by (kind_of d.table p) notes d p)

abbrev pub noted_definitions : NotesData → Listing → ℕ → List Place → Members
noted_definitions notes d number [] = no_members
noted_definitions notes d number (p ∷ ps) =
    member (definition_name number) (noted_definition notes d p) (noted_definitions notes d (suc number) ps)

abbrev pub noted_tree : NotesData → Listing → Node
noted_tree notes d =
    object (member (codes "$schema") (text (codes "https://json-schema.org/draft/2020-12/schema")) (
    member (codes "$ref") (text (reference_text 0)) (
    member (codes "$defs") (object (noted_definitions notes d 0 d.places)) no_members)))

-- the tree is the schema of the shape with this number, with what is said of it
pub record IsNotedSchema (t : TableData) (json_names : Bool) (notes : NotesData) (s : ℕ) (tree : Node) : Type 0 where
  pub places : List Place
  pub turns : ℕ
  pub listed : Listed t turns (root_place s ∷ []) 0 places
  pub is : tree ≡ noted_tree notes (record { table = t; json_names = json_names; places = places })

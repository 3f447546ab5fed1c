-- What is said of members and of places with notes, where there are any.
use Rattle.std.specs.Prelude.{◌≡◌, ◌<◌, ◌^◌, ℕ, suc, Bool, true, false, List, [], ◌∷◌, length, Option, Some, None, codes}
use Rattle.std.specs.Option.{option_map}
use denote.Ref.{Bor}
use Rattle.sm_tree.specs.Node.{Node, Members, text, object, no_members, member}
use Rattle.sm_shapes.specs.TableData.{TableData}
use Rattle.sm_shapes.specs.Places.{Place, root_place, kind_of}
use Rattle.sm_shapes.specs.declared.kinds.ShapeKind.{ShapeKind}
use Rattle.sm_shapes.specs.declared.kinds.ShapeKind.TheVariants as kinds
use Rattle.sm_schema.specs.Definitions.{Listed, Listing, definition_name, reference_text}
use Rattle.sm_schema.specs.Described.{definition_by}
use Rattle.sm_schema.specs.Noted.{NotesData, before_shape, noted, noted_member, structure_with, union_with}
use Rattle.sm_schema.specs.NotesView.{notes_data}
use Rattle.sm_schema.specs.declared.notes.Notes.{Notes}
use Rattle.sm_schema.specs.steps.Numbered.{schema_for}

abbrev pub notes_seen : Option (Bor Notes) → Option NotesData
notes_seen notes = option_map (λ n. notes_data n.now) notes

-- the schema of a member
abbrev pub member_for : Option NotesData → Listing → (ℕ → Node) → ℕ → Node
member_for None d schema k = schema k
member_for (Some notes) d schema k = noted_member notes d schema k

abbrev pub schema_with : Option NotesData → Listing → Bool → ℕ → Node
schema_with o d choice k = member_for o d (schema_for d choice) k

-- the keywords of a place's definition
abbrev pub keywords_for : ShapeKind → Option NotesData → Listing → Place → Node
keywords_for kinds.Structure o d p = structure_with d p (schema_with o d false)
keywords_for kinds.Union o d p = union_with d p (schema_with o d true)
keywords_for kind o d p = definition_by kind d p

-- the definition
abbrev pub place_for : Option NotesData → Listing → Place → Node → Node
place_for None d p n = n
place_for (Some notes) d p n = noted (before_shape notes d p) n

abbrev pub definition_for : Option NotesData → Listing → Place → Node
definition_for o d p = place_for o d p (keywords_for (kind_of d.table p) o d p)

abbrev pub definitions_for : Option NotesData → Listing → ℕ → List Place → Members
definitions_for o d number [] = no_members
definitions_for o d number (p ∷ ps) = member (definition_name number) (definition_for o d p) (definitions_for o d (suc number) ps)

-- and all of them
abbrev pub tree_for : Option NotesData → Listing → Node
tree_for o d =
    object (member (codes "$schema") (text (codes "https://json-schema.org/draft/2020-12/schema")) (
    member (codes "$ref") (text (reference_text 0)) (
    member (codes "$defs") (object (definitions_for o d 0 d.places)) no_members)))

pub record IsTreeFor (t : TableData) (json_names : Bool) (o : Option NotesData) (s : ℕ) (tree : Node) : Type 0 where
  pub places : List Place
  pub turns : ℕ
  pub listed : Listed t turns (root_place s ∷ []) 0 places
  pub few : length places < 2 ^ 64
  pub is : tree ≡ tree_for o (record { table = t; json_names = json_names; places = places })

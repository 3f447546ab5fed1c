-- Statements of all files with absolute ids: what files are merged from. The body of an operation, service or resource has its
-- fields in the order of its type's, without those that are empty; an operation without an input or an output has `Unit`.
use Rattle.std.specs.Prelude.{ℕ, Bool, true, false, List, [], ◌∷◌, map, Option, Some, None, if◌then◌else◌}
use Rattle.std.specs.List.{list_any, flat_map}
use Rattle.std.specs.Option.{unwrap_or}
use Rattle.std.specs.Str.{bytes_eq}
use Rattle.sm_tree.specs.Node.{Node, Members, null, bool, int, number, text, bytes, tag, opaque, list, object, no_nodes, node, no_members}
use Rattle.sm_tree.specs.Node.{member, members_of}
use Rattle.sm_tree.specs.Parts.{pairs_in, tree_named}
use Rattle.sm_model.specs.Properties.{TypeFields, property_forms, needed_fields}
use Rattle.sm_model.specs.Said.{TraitSaid, MemberSaid, ShapeSaid, Said, metadata_said, shape_said, apply_said}
use Rattle.sm_model.specs.Formed.{AreFormed}
use Rattle.sm_model.specs.Graphs.{MemberGiven, ShapeGiven}
use Rattle.sm_model.specs.PreludeShapes.{unit_id}
use Rattle.sm_model.specs.declared.kind.Kind.{Kind}
use Rattle.sm_merge.specs.Meaning.{Defined, meaning, meanings, node_meant}

-- a shape, and the ids of what it mixes in
pub record ShapeStated : Type 0 where
  pub shape : ShapeGiven
  pub mixins : List (List ℕ)

-- a statement with absolute ids
pub data Stated : Type 0 where
  metadata_stated : List ℕ → Node → Stated
  shape_stated : ShapeStated → Stated
  apply_stated : List ℕ → List (List ℕ × Node) → Stated

abbrev pub trait_stated : Defined → TraitSaid → List ℕ × Node
trait_stated defined t = (meaning defined t.id, node_meant defined t.value)

abbrev pub traits_stated : Defined → List TraitSaid → List (List ℕ × Node)
traits_stated defined ts = map (trait_stated defined) ts

abbrev pub member_stated : Defined → MemberSaid → MemberGiven
member_stated defined m = record { name = m.name; target = meaning defined m.target; traits = traits_stated defined m.traits }

-- a list or an object without entries
abbrev pub is_empty : Node → Bool
is_empty (list no_nodes) = true
is_empty (list (node n ns)) = false
is_empty (object no_members) = true
is_empty (object (member k n ms)) = false
is_empty null = false
is_empty (bool b) = false
is_empty (int z) = false
is_empty (number t) = false
is_empty (text t) = false
is_empty (bytes t) = false
is_empty (tag k n) = false
is_empty (opaque b) = false

-- a field, unless it is empty; one that isn't given is `Unit` where the type needs it
abbrev pub field_stated : Kind → List ℕ → Option Node → List (List ℕ × Node)
field_stated kind name None = if list_any (bytes_eq name) (needed_fields kind) then (name, text unit_id) ∷ [] else []
field_stated kind name (Some n) = if is_empty n then [] else (name, n) ∷ []

abbrev pub fields_stated : Kind → TypeFields → Members → List (List ℕ × Node)
fields_stated kind fs pairs = flat_map (λ f. field_stated kind f.0 (tree_named f.0 pairs)) fs

-- the body of a shape, which is an object
abbrev pub body_of : Kind → Node → Node
body_of kind n = object (members_of (fields_stated kind (property_forms kind) (unwrap_or (pairs_in n) no_members)))

abbrev pub shape_with_ids : Defined → ShapeSaid → ShapeStated
shape_with_ids defined s = record {
  shape = record {
    id = s.id;
    kind = s.kind;
    members = map (member_stated defined) s.members;
    properties = body_of s.kind (node_meant defined s.properties);
    traits = traits_stated defined s.traits;
  };
  mixins = meanings defined s.mixins;
}

abbrev pub stated : Defined → Said → Stated
stated defined (metadata_said key value) = metadata_stated key (node_meant defined value)
stated defined (shape_said s) = shape_stated (shape_with_ids defined s)
stated defined (apply_said id traits) = apply_stated (meaning defined id) (traits_stated defined traits)

-- the statement defines a shape with this id
abbrev pub defines : List ℕ → Said → Bool
defines id (metadata_said key value) = false
defines id (shape_said s) = bytes_eq s.id id
defines id (apply_said ref traits) = false

abbrev pub defined_among : List Said → Defined
defined_among ss id = list_any (defines id) ss

-- the statements of all files, in the order in which the files are named
abbrev pub all_said : List (List Said) → List Said
all_said files = flat_map (λ file. file) files

abbrev pub stated_by : List (List Said) → List Stated
stated_by files = map (stated (defined_among (all_said files))) (all_said files)

-- each file has statements as readers give them
abbrev pub AreFormedFiles : List (List Said) → Type 0
AreFormedFiles [] = Unit {0}
AreFormedFiles (file ∷ files) = AreFormed file × AreFormedFiles files

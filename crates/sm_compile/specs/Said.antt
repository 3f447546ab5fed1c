-- What a graph says of a shape's values and of those at a member: constraints, format, default (Smithy 2.0, "Constraint traits",
-- "timestampFormat trait", "default trait"). A trait of a member takes the place of its target's, as a whole.
use Rattle.std.specs.Prelude.{ℕ, ℤ, Bool, true, false, List, [], Option, Some, None, if◌then◌else◌, is_some, cond}
use Rattle.std.specs.List.{list_any}
use Rattle.std.specs.FinMap as fin
use Rattle.sm_tree.specs.Node.{Node, null, bool, int, number, text, bytes, tag, opaque, list, object, no_nodes, node, no_members, member}
use Rattle.sm_time.specs.declared.format.Format.{Format}
use Rattle.sm_model.specs.Graphs.{GraphMaps, ShapeEntry, MemberEntry, NodeMap}
use Rattle.sm_model.specs.declared.kind.Kind.{Kind}
use Rattle.sm_model.specs.declared.kind.Kind.TheVariants.{Enum, IntEnum, Structure}
use Rattle.sm_shapes.specs.declared.kinds.ShapeKind.{ShapeKind}
use Rattle.sm_shapes.specs.declared.kinds.ShapeKind.TheVariants as table
use Rattle.sm_compile.specs.Kinds.{has_length, is_text_kind, is_whole_kind, table_kind}
use Rattle.sm_compile.specs.Sound.{enum_texts, enum_numbers}
use Rattle.sm_compile.specs.TraitIds.{length_id, range_id, pattern_id, timestamp_format_id, default_id, binding_ids}
use Rattle.sm_compile.specs.TraitNodes.{TraitsSeen, text_of, least_of, most_of, format_named}

-- as in a table, with the text of a pattern in place of its number
pub record ConstraintsSaid : Type 0 where
  pub min : Option ℤ
  pub max : Option ℤ
  pub pattern : Option (List ℕ)
  pub texts : List (List ℕ)
  pub numbers : List ℤ

-- `length` bounds texts, blobs, lists and maps, `range` whole numbers; of any other kind no bound counts
abbrev pub bounds_seen : Kind → TraitsSeen → Option Node
bounds_seen kind seen =
    if has_length kind then seen length_id
    else if is_whole_kind kind then seen range_id
    else None

-- `pattern` counts where values are texts
abbrev pub pattern_seen : Kind → TraitsSeen → Option (List ℕ)
pattern_seen kind seen = if is_text_kind kind then text_of (seen pattern_id) else None

-- the values of an enum
abbrev pub texts_said : GraphMaps → Kind → List (List ℕ) → List (List ℕ)
texts_said g Enum members = enum_texts g members
texts_said g kind members = []

abbrev pub numbers_said : GraphMaps → Kind → List (List ℕ) → List ℤ
numbers_said g IntEnum members = enum_numbers g members
numbers_said g kind members = []

-- the constraints of values of this shape, by the traits that are seen
abbrev pub constraints_said : GraphMaps → ShapeEntry → TraitsSeen → ConstraintsSaid
constraints_said g s seen = record {
  min = least_of (bounds_seen s.kind seen);
  max = most_of (bounds_seen s.kind seen);
  pattern = pattern_seen s.kind seen;
  texts = texts_said g s.kind s.members;
  numbers = numbers_said g s.kind s.members;
}

abbrev pub format_seen : TraitsSeen → Option Format
format_seen seen = format_named (text_of (seen timestamp_format_id))

-- a member that a trait binds to a part of an HTTP message
abbrev pub is_bound : NodeMap → Bool
is_bound traits = list_any (λ id. is_some (fin.get traits id)) binding_ids

-- `[]` or `{}`
abbrev pub is_empty_node : Node → Bool
is_empty_node (list no_nodes) = true
is_empty_node (list (node n ns)) = false
is_empty_node (object no_members) = true
is_empty_node (object (member k n ms)) = false
is_empty_node null = false
is_empty_node (bool b) = false
is_empty_node (int z) = false
is_empty_node (number t) = false
is_empty_node (text t) = false
is_empty_node (bytes t) = false
is_empty_node (tag k n) = false
is_empty_node (opaque b) = false

-- the default of a member may be this node: of a simple type any but null, of a list or a map an empty one
abbrev pub may_have_node : ShapeKind → Node → Bool
may_have_node table.List n = is_empty_node n
may_have_node table.Map n = is_empty_node n
may_have_node table.Structure n = false
may_have_node table.Union n = false
may_have_node table.LeftOut n = false
may_have_node kind null = false
may_have_node kind n = true

abbrev pub node_where : ShapeKind → Option Node → Option Node
node_where kind None = None
node_where kind (Some n) = cond (may_have_node kind n) (Some n) None

-- the node of the default of a member of a shape of this kind, where all that needs no reader holds of it: the shape is a structure, HTTP
-- carries the member in the document, and the node may stand there
abbrev pub default_said : Kind → MemberEntry → Kind → Option Node
default_said Structure m target = cond (is_bound m.traits) None (node_where (table_kind target) (fin.get m.traits default_id))
default_said kind m target = None

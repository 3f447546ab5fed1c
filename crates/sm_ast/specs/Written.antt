-- The one tree that is written for a graph, in the JSON AST (Smithy 2.0, "JSON AST"). Metadata, shapes and traits stand in the
-- order of the bytes of their names, members in model order, fields in the order of the layout. Left out are the shapes of the
-- prelude, fields that are missing, and lists and objects without entries; `members` stands always, and so do `input` and
-- `output`, which every operation of a graph has.
use Rattle.std.specs.Prelude.{ℕ, List, [], ◌∷◌, ◌++◌, Option, Some, None, if◌then◌else◌, codes}
use Rattle.std.specs.FinMap as fin
use Rattle.sm_ids.specs.TextParts.{member_name}
use Rattle.sm_tree.specs.Node.{Node, Nodes, Members, text, list, object, no_nodes, node, no_members, member, nodes_of, members_of}
use Rattle.sm_model.specs.Kinds.{MemberForm, none, exactly, any, member_form, kind_name}
use Rattle.sm_model.specs.Properties.{TypeFields, property_forms}
use Rattle.sm_model.specs.Graphs.{ShapeMap, ShapeEntry, Entry, shape_entry, member_entry, GraphMaps}
use Rattle.sm_model.specs.declared.kind.Kind.{Kind}
use Rattle.sm_model.specs.declared.property.PropertyForm.{PropertyForm}
use Rattle.sm_model.specs.declared.property.PropertyForm.TheVariants.{Reference, References, NamedReferences, Text, Rename}
use Rattle.sm_ast.specs.Layout.{smithy_name, metadata_name, shapes_name, target_name, traits_name, type_name, members_name}
use Rattle.sm_tree.specs.Parts.{tree_named}
use Rattle.sm_model.specs.PreludeShapes.{is_prelude_id}
use Rattle.sm_ast.specs.PartsSaid.{entries_said, pairs_said}

-- the pairs of an object, in order
abbrev pub WrittenPairs : Type 0
WrittenPairs = List (List ℕ × Node)

abbrev pub object_of : WrittenPairs → Node
object_of ms = object (members_of ms)

-- a field, where it isn't missing
abbrev pub field_there : List ℕ → Option Node → WrittenPairs
field_there name None = []
field_there name (Some n) = (name, n) ∷ []

-- a list or an object that has entries
abbrev pub filled_list : Nodes → Option Node
filled_list no_nodes = None
filled_list (node n ns) = Some (list (node n ns))

abbrev pub filled_object : Members → Option Node
filled_object no_members = None
filled_object (member k n ms) = Some (object (member k n ms))

-- {"target": id}, of the text of an id
abbrev pub written_reference : Node → Node
written_reference id = object_of ((target_name, id) ∷ [])

abbrev pub written_entries : Nodes → List Node
written_entries no_nodes = []
written_entries (node id ids) = written_reference id ∷ written_entries ids

abbrev pub written_pairs : Members → WrittenPairs
written_pairs no_members = []
written_pairs (member k id ids) = (k, written_reference id) ∷ written_pairs ids

-- traits, where there are any
abbrev pub written_traits : WrittenPairs → WrittenPairs
written_traits traits = field_there traits_name (filled_object (members_of traits))

-- a member: its target, and its traits
abbrev pub member_object : List ℕ → WrittenPairs → Node
member_object target traits = object_of (((target_name, text target) ∷ []) ++ written_traits traits)

abbrev pub written_member : Entry → Option Node
written_member (shape_entry s) = None
written_member (member_entry m) = Some (member_object m.target (fin.entries m.traits))

abbrev pub written_entry : Option Entry → Option Node
written_entry None = None
written_entry (Some e) = written_member e

abbrev pub member_there : ShapeMap → List ℕ → WrittenPairs
member_there shapes id = field_there (member_name id) (written_entry (fin.get shapes id))

abbrev pub written_members : ShapeMap → List (List ℕ) → WrittenPairs
written_members shapes [] = []
written_members shapes (id ∷ ids) = member_there shapes id ++ written_members shapes ids

-- members by their names as fields of a list or map, and in an object of their own elsewhere
abbrev pub written_in_form : MemberForm → WrittenPairs → WrittenPairs
written_in_form none members = []
written_in_form (exactly names) members = members
written_in_form any members = (members_name, object_of members) ∷ []

-- a field of an operation, service or resource, from the node in which the graph has the texts of ids
abbrev pub written_property : PropertyForm → Node → Option Node
written_property Reference n = Some (written_reference n)
written_property References n = filled_list (nodes_of (written_entries (entries_said n)))
written_property NamedReferences n = filled_object (members_of (written_pairs (pairs_said n)))
written_property Text n = Some n
written_property Rename n = filled_object (pairs_said n)

abbrev pub property_there : PropertyForm → Option Node → Option Node
property_there form None = None
property_there form (Some n) = written_property form n

abbrev pub written_properties : TypeFields → Members → WrittenPairs
written_properties [] ms = []
written_properties (f ∷ fs) ms = field_there f.0 (property_there f.1 (tree_named f.0 ms)) ++ written_properties fs ms

-- a shape, from its type, its members, its body and its traits
abbrev pub shape_object : Kind → WrittenPairs → Members → WrittenPairs → Node
shape_object kind members body traits =
    object_of (((type_name, text (kind_name kind)) ∷ []) ++ written_in_form (member_form kind) members
    ++ written_properties (property_forms kind) body ++ written_traits traits)

abbrev pub written_shape : ShapeMap → ShapeEntry → Node
written_shape shapes s = shape_object s.kind (written_members shapes s.members) (pairs_said s.properties) (fin.entries s.traits)

-- what is written under an id of the graph; members are written in their shapes
abbrev pub written_statement : ShapeMap → List ℕ → Entry → Option Node
written_statement shapes id (shape_entry s) = if is_prelude_id id then None else Some (written_shape shapes s)
written_statement shapes id (member_entry m) = None

abbrev pub written_shapes : ShapeMap → List (List ℕ × Entry) → WrittenPairs
written_shapes shapes [] = []
written_shapes shapes (e ∷ es) = field_there e.0 (written_statement shapes e.0 e.1) ++ written_shapes shapes es

-- the whole tree, of metadata and of what is written for shapes
abbrev pub ast_object : WrittenPairs → WrittenPairs → Node
ast_object metadata shapes =
    object_of (((smithy_name, text (codes "2.0")) ∷ []) ++ field_there metadata_name (filled_object (members_of metadata))
    ++ field_there shapes_name (filled_object (members_of shapes)))

abbrev pub written_ast : GraphMaps → Node
written_ast g = ast_object (fin.entries g.metadata) (written_shapes g.shapes (fin.entries g.shapes))

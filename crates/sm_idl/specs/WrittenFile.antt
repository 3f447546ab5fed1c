-- What the text of a namespace says, as a file: this namespace without ids that it uses, one version, the metadata of the graph, and
-- the shapes of the namespace outside the prelude, whole, in the order of their ids. References stand in it by their absolute ids;
-- a member of an enum targets `Unit`, as its syntax says; lists and objects of a body that have nothing in them are left out.
use Rattle.std.specs.Prelude.{ℕ, true, false, List, [], ◌∷◌, ◌++◌, map, Option, Some, None, if◌then◌else◌, codes}
use Rattle.std.specs.FinMap as fin
use Rattle.sm_tree.specs.Node.{Node, Nodes, Members, text, no_nodes, node, no_members, member}
use Rattle.sm_tree.specs.Parts.{entries_in, pairs_in, tree_named}
use Rattle.sm_model.specs.Graphs.{ShapeMap, ShapeEntry, Entry, shape_entry, member_entry, GraphMaps}
use Rattle.sm_model.specs.PreludeShapes.{unit_id}
use Rattle.sm_model.specs.Properties.{TypeFields, property_forms}
use Rattle.sm_model.specs.Raw.{Raw, raw_leaf, raw_id, raw_list, raws_of, raw_of}
use Rattle.sm_model.specs.References.{absolute}
use Rattle.sm_model.specs.Said.{TraitSaid, MemberSaid, ShapeSaid, Said, metadata_said, shape_said}
use Rattle.sm_model.specs.declared.property.PropertyForm.{PropertyForm}
use Rattle.sm_model.specs.declared.property.PropertyForm.TheVariants.{Reference, References, NamedReferences, Text, Rename}
use Rattle.sm_model.specs.declared.reference.Ref.{Ref}
use Rattle.sm_idl.specs.Nodes.{Home, Pair, written, as_object}
use Rattle.sm_idl.specs.Bodies.{Controls}
use Rattle.sm_idl.specs.Idl.{FileSaid}
use Rattle.sm_idl.specs.WrittenForms.{written_form}
use Rattle.sm_idl.specs.Written.{NodePairs, written_id, is_written}
use Rattle.sm_ids.specs.TextParts.{member_name}
use Rattle.sm_idl.specs.declared.write.form.WrittenForm.{WrittenForm}
use Rattle.sm_idl.specs.declared.write.form.WrittenForm.TheVariants.{Alone, Names, Targets, Fields}

-- a file with this namespace that uses nothing
abbrev pub home_alone : List ℕ → Home
home_alone namespace = record { namespace = namespace; uses = [] }

-- @ID(NODE)
abbrev pub trait_said : Home → List ℕ → Node → TraitSaid
trait_said home id n = record { id = written home id true; value = raw_of n }

abbrev pub traits_said : Home → NodePairs → List TraitSaid
traits_said home ts = map (λ t. trait_said home t.0 t.1) ts

-- a member's target, by the form of its shape
abbrev pub target_said : Home → WrittenForm → List ℕ → Ref
target_said home Alone id = written home id false
target_said home Names id = absolute unit_id false
target_said home Targets id = written home id false
target_said home Fields id = written home id false

-- members, in model order
abbrev pub entry_member_said : Home → WrittenForm → List ℕ → Entry → List MemberSaid
entry_member_said home form id (shape_entry s) = []
entry_member_said home form id (member_entry m) =
    record { name = member_name id; target = target_said home form m.target; traits = traits_said home (fin.entries m.traits) } ∷ []

abbrev pub member_said : Home → WrittenForm → List ℕ → Option Entry → List MemberSaid
member_said home form id None = []
member_said home form id (Some e) = entry_member_said home form id e

abbrev pub members_said : Home → WrittenForm → ShapeMap → List (List ℕ) → List MemberSaid
members_said home form shapes [] = []
members_said home form shapes (id ∷ ids) = member_said home form id (fin.get shapes id) ++ members_said home form shapes ids

-- a reference in a body, where the graph has the text of its id
abbrev pub id_said : Home → Node → Raw
id_said home n = raw_id (written home (written_id n) false)

abbrev pub ids_said : Home → Nodes → List Raw
ids_said home no_nodes = []
ids_said home (node n ns) = id_said home n ∷ ids_said home ns

abbrev pub named_ids_said : Home → Members → List Pair
named_ids_said home no_members = []
named_ids_said home (member k n ms) = (k, id_said home n) ∷ named_ids_said home ms

abbrev pub leaves_said : Members → List Pair
leaves_said no_members = []
leaves_said (member k n ms) = (k, raw_leaf n) ∷ leaves_said ms

-- a list and an object that have something in them
abbrev pub filled_list : List Raw → Option Raw
filled_list [] = None
filled_list (r ∷ rs) = Some (raw_list (raws_of (r ∷ rs)))

abbrev pub filled_object : List Pair → Option Raw
filled_object [] = None
filled_object (p ∷ ps) = Some (as_object (p ∷ ps))

abbrev pub list_said : Home → Option Nodes → Option Raw
list_said home None = None
list_said home (Some ns) = filled_list (ids_said home ns)

abbrev pub named_said : Home → Option Members → Option Raw
named_said home None = None
named_said home (Some ms) = filled_object (named_ids_said home ms)

abbrev pub renamed_said : Option Members → Option Raw
renamed_said None = None
renamed_said (Some ms) = filled_object (leaves_said ms)

-- the value of a field
abbrev pub value_said : Home → PropertyForm → Node → Option Raw
value_said home Reference n = Some (id_said home n)
value_said home References n = list_said home (entries_in n)
value_said home NamedReferences n = named_said home (pairs_in n)
value_said home Text n = Some (raw_leaf n)
value_said home Rename n = renamed_said (pairs_in n)

abbrev pub value_there_said : Home → PropertyForm → Option Node → Option Raw
value_there_said home form None = None
value_there_said home form (Some n) = value_said home form n

abbrev pub field_said : List ℕ → Option Raw → List Pair
field_said name None = []
field_said name (Some r) = (name, r) ∷ []

abbrev pub fields_said : Home → TypeFields → Members → List Pair
fields_said home [] ms = []
fields_said home (f ∷ fs) ms = field_said f.0 (value_there_said home f.1 (tree_named f.0 ms)) ++ fields_said home fs ms

-- the body of an operation, service or resource
abbrev pub body_said : Home → TypeFields → Option Members → List Pair
body_said home fs None = []
body_said home fs (Some ms) = fields_said home fs ms

-- a shape
abbrev pub entry_said : Home → ShapeMap → List ℕ → ShapeEntry → ShapeSaid
entry_said home shapes id s = record {
  id = id;
  kind = s.kind;
  members = members_said home (written_form s.kind) shapes s.members;
  mixins = [];
  properties = as_object (body_said home (property_forms s.kind) (pairs_in s.properties));
  traits = traits_said home (fin.entries s.traits);
}

-- what is said for an id; members stand in their shapes
abbrev pub entry_statements : Home → ShapeMap → List ℕ → Entry → List Said
entry_statements home shapes id (shape_entry s) =
    if is_written home.namespace id then shape_said (entry_said home shapes id s) ∷ [] else []
entry_statements home shapes id (member_entry m) = []

abbrev pub shapes_said : Home → ShapeMap → List (List ℕ × Entry) → List Said
shapes_said home shapes [] = []
shapes_said home shapes (e ∷ es) = entry_statements home shapes e.0 e.1 ++ shapes_said home shapes es

abbrev pub metadata_of : NodePairs → List Said
metadata_of ms = map (λ m. metadata_said m.0 (raw_of m.1)) ms

-- $version: "2.0"
abbrev pub version_control : Controls
version_control = (codes "version", raw_leaf (text (codes "2.0"))) ∷ []

-- the file that is written for a namespace of a graph
abbrev pub namespace_file : GraphMaps → List ℕ → FileSaid
namespace_file g namespace = record {
  home = Some (home_alone namespace);
  controls = version_control;
  said = metadata_of (fin.entries g.metadata) ++ shapes_said (home_alone namespace) g.shapes (fin.entries g.shapes);
}

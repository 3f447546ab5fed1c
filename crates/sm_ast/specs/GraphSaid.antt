-- The statements of a graph: its metadata and its shapes outside the prelude, in the order of their names. Each shape is stated
-- whole, with its members and its traits, by absolute ids; lists and objects of its body that have nothing in them are left out.
use Rattle.std.specs.Prelude.{ℕ, false, true, List, [], ◌∷◌, ◌++◌, map, Option, Some, None, if◌then◌else◌}
use Rattle.std.specs.FinMap as fin
use Rattle.sm_tree.specs.Node.{Node, Nodes, Members, no_nodes, node, no_members, member}
use Rattle.sm_model.specs.Properties.{TypeFields, property_forms}
use Rattle.sm_model.specs.References.{absolute}
use Rattle.sm_model.specs.Raw.{Raw, Raws, RawMembers, raw_leaf, raw_id, raw_list, raw_object, no_raws, raw, no_raw_members, raw_member}
use Rattle.sm_model.specs.Raw.{raw_members_of, raw_of}
use Rattle.sm_model.specs.Said.{TraitSaid, MemberSaid, ShapeSaid, Said, metadata_said, shape_said}
use Rattle.sm_model.specs.Graphs.{NodeMap, ShapeMap, ShapeEntry, Entry, shape_entry, member_entry, GraphMaps}
use Rattle.sm_model.specs.declared.property.PropertyForm.{PropertyForm}
use Rattle.sm_model.specs.declared.property.PropertyForm.TheVariants.{Reference, References, NamedReferences, Text, Rename}
use Rattle.sm_tree.specs.Parts.{tree_named}
use Rattle.sm_model.specs.PreludeShapes.{is_prelude_id}
use Rattle.sm_ids.specs.TextParts.{member_name}
use Rattle.sm_ast.specs.PartsSaid.{text_said, entries_said, pairs_said}

-- traits
abbrev pub traits_of_pairs : List (List ℕ × Node) → List TraitSaid
traits_of_pairs ts = map (λ t. record { id = absolute t.0 true; value = raw_of t.1 }) ts

abbrev pub map_said : NodeMap → List TraitSaid
map_said traits = traits_of_pairs (fin.entries traits)

-- members, in model order
abbrev pub entry_member_said : List ℕ → Entry → List MemberSaid
entry_member_said id (shape_entry s) = []
entry_member_said id (member_entry m) =
    record { name = member_name id; target = absolute m.target false; traits = map_said m.traits } ∷ []

abbrev pub member_under_said : List ℕ → Option Entry → List MemberSaid
member_under_said id None = []
member_under_said id (Some e) = entry_member_said id e

abbrev pub shape_members_said : ShapeMap → List (List ℕ) → List MemberSaid
shape_members_said shapes [] = []
shape_members_said shapes (id ∷ ids) = member_under_said id (fin.get shapes id) ++ shape_members_said shapes ids

-- the body of an operation, service or resource
abbrev pub id_said : Node → Raw
id_said n = raw_id (absolute (text_said n) false)

abbrev pub ids_said : Nodes → Raws
ids_said no_nodes = no_raws
ids_said (node n ns) = raw (id_said n) (ids_said ns)

abbrev pub named_ids_said : Members → RawMembers
named_ids_said no_members = no_raw_members
named_ids_said (member k n ms) = raw_member k (id_said n) (named_ids_said ms)

abbrev pub names_said : Members → RawMembers
names_said no_members = no_raw_members
names_said (member k n ms) = raw_member k (raw_leaf n) (names_said ms)

abbrev pub filled_raws : Raws → Option Raw
filled_raws no_raws = None
filled_raws (raw r rs) = Some (raw_list (raw r rs))

abbrev pub filled_raw_members : RawMembers → Option Raw
filled_raw_members no_raw_members = None
filled_raw_members (raw_member k r rs) = Some (raw_object (raw_member k r rs))

abbrev pub form_said : PropertyForm → Node → Option Raw
form_said Reference n = Some (id_said n)
form_said References n = filled_raws (ids_said (entries_said n))
form_said NamedReferences n = filled_raw_members (named_ids_said (pairs_said n))
form_said Text n = Some (raw_leaf n)
form_said Rename n = filled_raw_members (names_said (pairs_said n))

abbrev pub form_there_said : PropertyForm → Option Node → Option Raw
form_there_said form None = None
form_there_said form (Some n) = form_said form n

abbrev pub raw_field : List ℕ → Option Raw → List (List ℕ × Raw)
raw_field name None = []
raw_field name (Some r) = (name, r) ∷ []

abbrev pub body_said : TypeFields → Members → List (List ℕ × Raw)
body_said [] ms = []
body_said (f ∷ fs) ms = raw_field f.0 (form_there_said f.1 (tree_named f.0 ms)) ++ body_said fs ms

-- shapes
abbrev pub entry_said : ShapeMap → List ℕ → ShapeEntry → ShapeSaid
entry_said shapes id s = record {
  id = id;
  kind = s.kind;
  members = shape_members_said shapes s.members;
  mixins = [];
  properties = raw_object (raw_members_of (body_said (property_forms s.kind) (pairs_said s.properties)));
  traits = map_said s.traits;
}

abbrev pub entry_statements : ShapeMap → List ℕ → Entry → List Said
entry_statements shapes id (shape_entry s) = if is_prelude_id id then [] else shape_said (entry_said shapes id s) ∷ []
entry_statements shapes id (member_entry m) = []

abbrev pub graph_statements : ShapeMap → List (List ℕ × Entry) → List Said
graph_statements shapes [] = []
graph_statements shapes (e ∷ es) = entry_statements shapes e.0 e.1 ++ graph_statements shapes es

-- the whole graph
abbrev pub graph_said : GraphMaps → List Said
graph_said g = map (λ m. metadata_said m.0 (raw_of m.1)) (fin.entries g.metadata) ++ graph_statements g.shapes (fin.entries g.shapes)

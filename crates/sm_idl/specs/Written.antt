-- The one text that is written for a namespace of a graph (Smithy 2.0, "Smithy IDL"): the version, the metadata, the namespace, and
-- its shapes outside the prelude in the order of their ids, an empty line before each. Every line ends with a line feed. Nodes are
-- JSON without whitespace, ids are absolute, traits stand in the order of their ids, and members in model order. The fields of
-- operations, services and resources stand in the order of their type, without those that are missing or have nothing in them.
use Rattle.std.specs.Prelude.{ℕ, Bool, true, false, ◌&&◌, not, if◌then◌else◌, List, [], ◌∷◌, ◌++◌, Option, Some, None, codes}
use Rattle.std.specs.FinMap as fin
use Rattle.std.specs.Str.{bytes_eq}
use Rattle.sm_bytes.specs.Ascii.{line_feed, comma, colon, left_bracket, right_bracket, left_brace, right_brace}
use Rattle.sm_ids.specs.TextParts.{local_part, member_name, namespace_part}
use Rattle.sm_json.specs.Written.{written, written_text}
use Rattle.sm_tree.specs.Node.{Node, Nodes, Members, object, no_nodes, node, no_members, member}
use Rattle.sm_tree.specs.Parts.{text_in, entries_in, pairs_in, tree_named}
use Rattle.sm_model.specs.Graphs.{ShapeMap, ShapeEntry, Entry, shape_entry, member_entry, GraphMaps}
use Rattle.sm_model.specs.Kinds.{kind_name}
use Rattle.sm_model.specs.PreludeShapes.{is_prelude_id}
use Rattle.sm_model.specs.Properties.{TypeFields, property_forms}
use Rattle.sm_model.specs.declared.kind.Kind.{Kind}
use Rattle.sm_model.specs.declared.property.PropertyForm.{PropertyForm}
use Rattle.sm_model.specs.declared.property.PropertyForm.TheVariants.{Reference, References, NamedReferences, Text, Rename}
use Rattle.sm_idl.specs.WrittenForms.{written_form}
use Rattle.sm_idl.specs.declared.write.form.WrittenForm.{WrittenForm}
use Rattle.sm_idl.specs.declared.write.form.WrittenForm.TheVariants.{Alone, Names, Targets, Fields}

-- nodes under names, in order
abbrev pub NodePairs : Type 0
NodePairs = List (List ℕ × Node)

-- what stands within braces
abbrev pub indent : List ℕ
indent = codes "    "

-- metadata "KEY" = NODE
abbrev pub metadata_line : List ℕ → Node → List ℕ
metadata_line key n = codes "metadata " ++ written_text key ++ codes " = " ++ written n ++ line_feed ∷ []

abbrev pub metadata_lines : NodePairs → List ℕ
metadata_lines [] = []
metadata_lines (m ∷ ms) = metadata_line m.0 m.1 ++ metadata_lines ms

-- @ID(NODE), behind what the line begins with
abbrev pub trait_line : List ℕ → List ℕ → Node → List ℕ
trait_line margin id n = margin ++ codes "@" ++ id ++ codes "(" ++ written n ++ codes ")\n"

abbrev pub trait_lines : List ℕ → NodePairs → List ℕ
trait_lines margin [] = []
trait_lines margin (t ∷ ts) = trait_line margin t.0 t.1 ++ trait_lines margin ts

-- a member: its traits, and `    name: TARGET`; in an enum `    NAME`
abbrev pub target_part : Bool → List ℕ → List ℕ
target_part false target = []
target_part true target = codes ": " ++ target

abbrev pub member_text : Bool → List ℕ → List ℕ → NodePairs → List ℕ
member_text targets name target traits = trait_lines indent traits ++ indent ++ name ++ target_part targets target ++ line_feed ∷ []

abbrev pub written_member : Bool → List ℕ → Entry → List ℕ
written_member targets id (shape_entry s) = []
written_member targets id (member_entry m) = member_text targets (member_name id) m.target (fin.entries m.traits)

abbrev pub member_there : Bool → List ℕ → Option Entry → List ℕ
member_there targets id None = []
member_there targets id (Some e) = written_member targets id e

abbrev pub member_lines : Bool → ShapeMap → List (List ℕ) → List ℕ
member_lines targets shapes [] = []
member_lines targets shapes (id ∷ ids) = member_there targets id (fin.get shapes id) ++ member_lines targets shapes ids

-- the text of an id, which stands for a reference
abbrev pub text_or_none : Option (List ℕ) → List ℕ
text_or_none None = []
text_or_none (Some t) = t

abbrev pub written_id : Node → List ℕ
written_id n = text_or_none (text_in n)

-- [ID, ID], behind the first one
abbrev pub more_ids : Nodes → List ℕ
more_ids no_nodes = right_bracket ∷ []
more_ids (node n ns) = codes ", " ++ written_id n ++ more_ids ns

abbrev pub written_ids : Option Nodes → Option (List ℕ)
written_ids None = None
written_ids (Some no_nodes) = None
written_ids (Some (node n ns)) = Some (left_bracket ∷ (written_id n ++ more_ids ns))

-- {"KEY":ID,"KEY":ID}, behind the first pair
abbrev pub named_id : List ℕ → Node → List ℕ
named_id key n = written_text key ++ colon ∷ written_id n

abbrev pub more_named_ids : Members → List ℕ
more_named_ids no_members = right_brace ∷ []
more_named_ids (member k n ms) = comma ∷ (named_id k n ++ more_named_ids ms)

abbrev pub written_named_ids : Option Members → Option (List ℕ)
written_named_ids None = None
written_named_ids (Some no_members) = None
written_named_ids (Some (member k n ms)) = Some (left_brace ∷ (named_id k n ++ more_named_ids ms))

-- an object that has pairs
abbrev pub written_pairs : Option Members → Option (List ℕ)
written_pairs None = None
written_pairs (Some no_members) = None
written_pairs (Some (member k n ms)) = Some (written (object (member k n ms)))

-- the value of a field: a reference by its id, references by their ids, everything else as its node
abbrev pub written_value : PropertyForm → Node → Option (List ℕ)
written_value Reference n = text_in n
written_value References n = written_ids (entries_in n)
written_value NamedReferences n = written_named_ids (pairs_in n)
written_value Text n = Some (written n)
written_value Rename n = written_pairs (pairs_in n)

abbrev pub value_there : PropertyForm → Option Node → Option (List ℕ)
value_there form None = None
value_there form (Some n) = written_value form n

--     key: VALUE
abbrev pub field_line : List ℕ → Option (List ℕ) → List ℕ
field_line name None = []
field_line name (Some value) = indent ++ name ++ codes ": " ++ value ++ line_feed ∷ []

abbrev pub field_lines : TypeFields → Members → List ℕ
field_lines [] ms = []
field_lines (f ∷ fs) ms = field_line f.0 (value_there f.1 (tree_named f.0 ms)) ++ field_lines fs ms

abbrev pub body_lines : TypeFields → Option Members → List ℕ
body_lines fs None = []
body_lines fs (Some ms) = field_lines fs ms

-- what stands behind the type and the name: nothing, or members or fields in braces
abbrev pub braced : List ℕ → List ℕ
braced lines = codes " {\n" ++ lines ++ codes "}\n"

abbrev pub body_in_form : WrittenForm → ShapeMap → Kind → List (List ℕ) → Node → List ℕ
body_in_form Alone shapes kind members body = line_feed ∷ []
body_in_form Names shapes kind members body = braced (member_lines false shapes members)
body_in_form Targets shapes kind members body = braced (member_lines true shapes members)
body_in_form Fields shapes kind members body = braced (body_lines (property_forms kind) (pairs_in body))

-- a shape: its traits, its type and its name, and its body
abbrev pub stated_text : ShapeMap → List ℕ → Kind → List (List ℕ) → Node → List ℕ
stated_text shapes name kind members body =
    kind_name kind ++ codes " " ++ name ++ body_in_form (written_form kind) shapes kind members body

abbrev pub shape_text : ShapeMap → List ℕ → Kind → List (List ℕ) → Node → NodePairs → List ℕ
shape_text shapes name kind members body traits = trait_lines [] traits ++ stated_text shapes name kind members body

abbrev pub written_shape : ShapeMap → List ℕ → ShapeEntry → List ℕ
written_shape shapes id s = shape_text shapes (local_part id) s.kind s.members s.properties (fin.entries s.traits)

-- the shapes of a namespace that are written, each behind an empty line; members are written in their shapes
abbrev pub is_written : List ℕ → List ℕ → Bool
is_written namespace id = bytes_eq (namespace_part id) namespace && not (is_prelude_id id)

abbrev pub written_entry : ShapeMap → List ℕ → List ℕ → Entry → List ℕ
written_entry shapes namespace id (shape_entry s) = if is_written namespace id then line_feed ∷ written_shape shapes id s else []
written_entry shapes namespace id (member_entry m) = []

abbrev pub shape_lines : ShapeMap → List ℕ → List (List ℕ × Entry) → List ℕ
shape_lines shapes namespace [] = []
shape_lines shapes namespace (e ∷ es) = written_entry shapes namespace e.0 e.1 ++ shape_lines shapes namespace es

-- the whole text, of the lines of metadata and of those of shapes
abbrev pub idl_text : List ℕ → List ℕ → List ℕ → List ℕ
idl_text metadata namespace shapes =
    codes "$version: \"2.0\"\n" ++ metadata ++ codes "namespace " ++ namespace ++ line_feed ∷ [] ++ shapes

abbrev pub written_idl : GraphMaps → List ℕ → List ℕ
written_idl g namespace =
    idl_text (metadata_lines (fin.entries g.metadata)) namespace (shape_lines g.shapes namespace (fin.entries g.shapes))

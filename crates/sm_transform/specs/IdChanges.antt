-- What stands under an id where ids become others, or are gone. Ids are the members of shapes, targets, references in the bodies of
-- operations, services and resources, keys of `rename`, and the ids of traits. Texts within the values of traits and of metadata are none.
use Rattle.std.specs.Prelude.{ℕ, Bool, true, false, List, Option, Some, None}
use Rattle.std.specs.FinMap as fin
use Rattle.std.specs.List.{filter_map, list_any}
use Rattle.std.specs.Option.{option_map, unwrap_or}
use Rattle.std.specs.Str.{bytes_eq}
use Rattle.sm_tree.specs.Node.{Node, Nodes, Members, text, list, object, no_nodes, node, no_members, member}
use Rattle.sm_tree.specs.Parts.{entries_in, pairs_in, text_in}
use Rattle.sm_model.specs.Graphs.{Entry, NodeMap, shape_entry, member_entry}
use Rattle.sm_model.specs.Properties.{form_named, needed_fields, property_forms}
use Rattle.sm_model.specs.declared.kind.Kind.{Kind}
use Rattle.sm_model.specs.declared.property.PropertyForm.{PropertyForm}
use Rattle.sm_model.specs.declared.property.PropertyForm.TheVariants.{Reference, References, NamedReferences, Text, Rename}

-- what becomes of an id: an id, or it is gone
abbrev pub IdChange : Type 0
IdChange = List ℕ → Option (List ℕ)

-- where an id must stand, one that is gone stays
abbrev pub id_after : IdChange → List ℕ → List ℕ
id_after change id = unwrap_or (change id) id

-- traits by their ids
abbrev pub trait_after : IdChange → List ℕ × Node → Option (List ℕ × Node)
trait_after change t = option_map (λ id. (id, t.1)) (change t.0)

abbrev pub traits_after : IdChange → NodeMap → NodeMap
traits_after change m = fin.from_entries (filter_map (trait_after change) (fin.entries m))

-- a reference; what is no text is none
abbrev pub text_after : IdChange → Node → Option (List ℕ) → Option Node
text_after change n None = Some n
text_after change n (Some id) = option_map text (change id)

abbrev pub reference_after : IdChange → Node → Option Node
reference_after change n = text_after change n (text_in n)

-- references in a list, and those under names
abbrev pub put_entry : Option Node → Nodes → Nodes
put_entry None ns = ns
put_entry (Some n) ns = node n ns

abbrev pub entries_after : IdChange → Nodes → Nodes
entries_after change no_nodes = no_nodes
entries_after change (node n ns) = put_entry (reference_after change n) (entries_after change ns)

abbrev pub put_pair : List ℕ → Option Node → Members → Members
put_pair k None ms = ms
put_pair k (Some n) ms = member k n ms

abbrev pub values_after : IdChange → Members → Members
values_after change no_members = no_members
values_after change (member k n ms) = put_pair k (reference_after change n) (values_after change ms)

-- what stands under ids
abbrev pub put_under : Option (List ℕ) → Node → Members → Members
put_under None n ms = ms
put_under (Some k) n ms = member k n ms

abbrev pub keys_after : IdChange → Members → Members
keys_after change no_members = no_members
keys_after change (member k n ms) = put_under (change k) n (keys_after change ms)

-- a list or an object of which nothing is left is gone
abbrev pub list_left : Nodes → Nodes → Option Node
list_left no_nodes left = Some (list left)
list_left (node n ns) no_nodes = None
list_left (node n ns) (node m left) = Some (list (node m left))

abbrev pub object_left : Members → Members → Option Node
object_left no_members left = Some (object left)
object_left (member k n ms) no_members = None
object_left (member k n ms) (member j m left) = Some (object (member j m left))

-- what stands in a field, by its form
abbrev pub listed_after : IdChange → Node → Option Nodes → Option Node
listed_after change n None = Some n
listed_after change n (Some ns) = list_left ns (entries_after change ns)

abbrev pub named_after : IdChange → Node → Option Members → Option Node
named_after change n None = Some n
named_after change n (Some ms) = object_left ms (values_after change ms)

abbrev pub renames_after : IdChange → Node → Option Members → Option Node
renames_after change n None = Some n
renames_after change n (Some ms) = object_left ms (keys_after change ms)

abbrev pub value_after : IdChange → PropertyForm → Node → Option Node
value_after change Reference n = reference_after change n
value_after change References n = listed_after change n (entries_in n)
value_after change NamedReferences n = named_after change n (pairs_in n)
value_after change Text n = Some n
value_after change Rename n = renames_after change n (pairs_in n)

-- a field that each shape of the type has stays as it is where its reference is gone: `input` and `output` of an operation
abbrev pub is_needed : Kind → List ℕ → Bool
is_needed kind name = list_any (bytes_eq name) (needed_fields kind)

abbrev pub field_after : IdChange → Bool → Option PropertyForm → Node → Option Node
field_after change needed None n = Some n
field_after change true (Some form) n = Some (unwrap_or (value_after change form n) n)
field_after change false (Some form) n = value_after change form n

-- a body without the fields that are gone
abbrev pub fields_after : IdChange → Kind → Members → Members
fields_after change kind no_members = no_members
fields_after change kind (member k n ms) =
    put_pair k (field_after change (is_needed kind k) (form_named k (property_forms kind)) n) (fields_after change kind ms)

abbrev pub pairs_after : IdChange → Kind → Node → Option Members → Node
pairs_after change kind n None = n
pairs_after change kind n (Some ms) = object (fields_after change kind ms)

abbrev pub body_after : IdChange → Kind → Node → Node
body_after change kind n = pairs_after change kind n (pairs_in n)

-- what stands under an id: a shape without the members that are gone, or a member
abbrev pub entry_after : IdChange → Entry → Entry
entry_after change (shape_entry s) =
    shape_entry (record {
      kind = s.kind;
      members = filter_map change s.members;
      properties = body_after change s.kind s.properties;
      traits = traits_after change s.traits;
    })
entry_after change (member_entry m) =
    member_entry (record { target = id_after change m.target; traits = traits_after change m.traits })

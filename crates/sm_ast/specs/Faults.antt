-- The first refusal of a tree as a model of the JSON AST (Smithy 2.0, "JSON AST"), in the order of the tree: a refusal at a
-- pair goes before those inside it, and a missing field stands at the end of its object.
use Rattle.std.specs.Prelude.{◌+◌, ◌++◌, ◌&&◌, ◌||◌, not, ℕ, Bool, true, false, List, [], ◌∷◌, Option, Some, None, if◌then◌else◌, codes}
use Rattle.std.specs.List.{list_any}
use Rattle.std.specs.Str.{bytes_eq}
use Rattle.sm_ids.specs.Identifier.{is_identifier}
use Rattle.sm_tree.specs.Node.{Node, Nodes, Members, null, bool, int, number, text, bytes, tag, opaque, list, object, no_nodes, node}
use Rattle.sm_tree.specs.Node.{no_members, member}
use Rattle.sm_tree.specs.Parts.{text_in, entries_in, pairs_in, tree_named}
use Rattle.sm_tree.specs.declared.path.Step.{Step}
use Rattle.sm_tree.specs.declared.path.Step.TheVariants.{Index, Key}
use Rattle.sm_model.specs.declared.property.PropertyForm.{PropertyForm}
use Rattle.sm_model.specs.declared.property.PropertyForm.TheVariants.{Reference, References, NamedReferences, Text, Rename}
use Rattle.sm_ast.specs.Ids.{is_id, has_member}
use Rattle.sm_ast.specs.declared.layout.ShapeType.{ShapeType}
use Rattle.sm_ast.specs.declared.layout.FieldForm.{FieldForm}
use Rattle.sm_ast.specs.declared.layout.FieldForm.TheVariants.{TypeName, OneMember, AllMembers, Property, Mixins, Traits}
use Rattle.sm_ast.specs.Layout.{smithy_name, metadata_name, shapes_name, target_name, traits_name, type_name, layout_of}
use Rattle.sm_ast.specs.Layout.{field_named, needed, type_named}

-- a refusal, with the path from the tree that is judged
pub data AstFault : Type 0 where
  -- `smithy` is no version that is read
  version : AstFault
  -- a field is missing, with the path of its object; or unknown, or its name stands twice, with the path of its pair
  field : List Step → AstFault
  -- a value has another kind
  wrong_type : List Step → AstFault
  -- a text is no id, or no identifier
  bad_id : List Step → AstFault

-- seen from the tree that has this one at the step
abbrev pub fault_under : Step → AstFault → AstFault
fault_under step version = version
fault_under step (field path) = field (step ∷ path)
fault_under step (wrong_type path) = wrong_type (step ∷ path)
fault_under step (bad_id path) = bad_id (step ∷ path)

abbrev pub seen_from : Step → Option AstFault → Option AstFault
seen_from step None = None
seen_from step (Some fault) = Some (fault_under step fault)

-- the first of two, in this order
abbrev pub earlier_of : Option AstFault → Option AstFault → Option AstFault
earlier_of (Some fault) later = Some fault
earlier_of None later = later

-- nothing, or this
abbrev pub unless : Bool → AstFault → Option AstFault
unless true fault = None
unless false fault = Some fault

-- whether the name stands among these
abbrev pub stands_in : List ℕ → List (List ℕ) → Bool
stands_in k ks = list_any (λ j. bytes_eq j k) ks

abbrev pub names_of : Members → List (List ℕ)
names_of no_members = []
names_of (member k n ms) = k ∷ names_of ms

-- a name that stood before is refused, and else what `judge` says of the pair
abbrev pub pair_fault : List (List ℕ) → List ℕ → Option AstFault → Option AstFault
pair_fault before k fault = seen_from (Key k) (if stands_in k before then Some (field []) else fault)

-- of pairs, behind pairs with these names
abbrev pub pairs_fault : (List ℕ → Node → Option AstFault) → List (List ℕ) → Members → Option AstFault
pairs_fault judge before no_members = None
pairs_fault judge before (member k n ms) = earlier_of (pair_fault before k (judge k n)) (pairs_fault judge (before ++ k ∷ []) ms)

-- of entries, from this number on
abbrev pub entries_fault : (Node → Option AstFault) → ℕ → Nodes → Option AstFault
entries_fault judge at no_nodes = None
entries_fault judge at (node n ns) = earlier_of (seen_from (Index at) (judge n)) (entries_fault judge (at + 1) ns)

-- the fields that must be there
abbrev pub are_there : List (List ℕ) → List (List ℕ) → Bool
are_there [] names = true
are_there (k ∷ ks) names = stands_in k names && are_there ks names

-- of an object's pairs: what is at a pair or in it, then what is missing
abbrev pub object_fault : (List ℕ → Node → Option AstFault) → List (List ℕ) → Members → Option AstFault
object_fault judge wanted ms = earlier_of (pairs_fault judge [] ms) (unless (are_there wanted (names_of ms)) (field []))

abbrev mutual
  -- of a node: a name that stands twice
  pub node_fault : Node → Option AstFault
  node_fault null = None
  node_fault (bool b) = None
  node_fault (int z) = None
  node_fault (number t) = None
  node_fault (text t) = None
  node_fault (bytes t) = None
  node_fault (tag k n) = None
  node_fault (opaque b) = None
  node_fault (list ns) = nodes_fault 0 ns
  node_fault (object ms) = members_fault [] ms

  pub nodes_fault : ℕ → Nodes → Option AstFault
  nodes_fault at no_nodes = None
  nodes_fault at (node n ns) = earlier_of (seen_from (Index at) (node_fault n)) (nodes_fault (at + 1) ns)

  pub members_fault : List (List ℕ) → Members → Option AstFault
  members_fault before no_members = None
  members_fault before (member k n ms) = earlier_of (pair_fault before k (node_fault n)) (members_fault (before ++ k ∷ []) ms)

-- what is in a tree of the wanted kind is judged, and every other tree is refused
abbrev pub judged : {X : Type 0} → (X → Option AstFault) → Option X → Option AstFault
judged judge None = Some (wrong_type [])
judged judge (Some x) = judge x

abbrev pub of_text : (List ℕ → Option AstFault) → Node → Option AstFault
of_text judge n = judged judge (text_in n)

abbrev pub of_list : (Nodes → Option AstFault) → Node → Option AstFault
of_list judge n = judged judge (entries_in n)

abbrev pub of_object : (Members → Option AstFault) → Node → Option AstFault
of_object judge n = judged judge (pairs_in n)

-- the text of an id, of an identifier
abbrev pub id_fault : Node → Option AstFault
id_fault n = of_text (λ t. unless (is_id t) (bad_id [])) n

abbrev pub identifier_fault : Node → Option AstFault
identifier_fault n = of_text (λ t. unless (is_identifier t) (bad_id [])) n

-- {"target": id}
abbrev pub target_fault : List ℕ → Node → Option AstFault
target_fault k n = if bytes_eq k target_name then id_fault n else Some (field [])

abbrev pub reference_fault : Node → Option AstFault
reference_fault n = of_object (object_fault target_fault (target_name ∷ [])) n

-- a list of references, an object of references, an object of identifiers under ids
abbrev pub references_fault : Node → Option AstFault
references_fault n = of_list (entries_fault reference_fault 0) n

abbrev pub named_references_fault : Node → Option AstFault
named_references_fault n = of_object (pairs_fault (λ k m. reference_fault m) []) n

abbrev pub new_name_fault : List ℕ → Node → Option AstFault
new_name_fault k n = earlier_of (unless (is_id k) (bad_id [])) (identifier_fault n)

abbrev pub rename_fault : Node → Option AstFault
rename_fault n = of_object (pairs_fault new_name_fault []) n

-- an object of nodes under the ids of traits
abbrev pub trait_fault : List ℕ → Node → Option AstFault
trait_fault k n = earlier_of (unless (is_id k) (bad_id [])) (node_fault n)

abbrev pub traits_fault : Node → Option AstFault
traits_fault n = of_object (pairs_fault trait_fault []) n

-- a member: a reference with optional `traits`
abbrev pub part_of_member_fault : List ℕ → Node → Option AstFault
part_of_member_fault k n = if bytes_eq k traits_name then traits_fault n else target_fault k n

abbrev pub member_fault : Node → Option AstFault
member_fault n = of_object (object_fault part_of_member_fault (target_name ∷ [])) n

-- an object of members under identifiers
abbrev pub named_member_fault : List ℕ → Node → Option AstFault
named_member_fault k n = earlier_of (unless (is_identifier k) (bad_id [])) (member_fault n)

abbrev pub named_members_fault : Node → Option AstFault
named_members_fault n = of_object (pairs_fault named_member_fault []) n

abbrev pub property_fault : PropertyForm → Node → Option AstFault
property_fault Reference n = reference_fault n
property_fault References n = references_fault n
property_fault NamedReferences n = named_references_fault n
property_fault Text n = of_text (λ t. None) n
property_fault Rename n = rename_fault n

-- a field of a shape, by its form; the type was judged before
abbrev pub form_fault : Option FieldForm → Node → Option AstFault
form_fault None n = Some (field [])
form_fault (Some TypeName) n = None
form_fault (Some OneMember) n = member_fault n
form_fault (Some AllMembers) n = named_members_fault n
form_fault (Some (Property form)) n = property_fault form n
form_fault (Some Mixins) n = references_fault n
form_fault (Some Traits) n = traits_fault n

-- the type that a tree says
abbrev pub type_of_text : Option (List ℕ) → Option ShapeType
type_of_text None = None
type_of_text (Some t) = type_named t

abbrev pub type_said : Node → Option ShapeType
type_said n = type_of_text (text_in n)

-- of the pairs of a shape, whose type is this
abbrev pub typed_fault : Option ShapeType → Members → Option AstFault
typed_fault None ms = Some (wrong_type [])
typed_fault (Some type) ms = object_fault (λ k n. form_fault (field_named k (layout_of type)) n) (needed type) ms

-- of the pairs of a shape, by its first `type`: without one no field is known, and none is judged but by its names
abbrev pub shape_pairs_fault : Option Node → Members → Option AstFault
shape_pairs_fault None ms = earlier_of (members_fault [] ms) (Some (field []))
shape_pairs_fault (Some type) ms = typed_fault (type_said type) ms

abbrev pub shape_value_fault : Node → Option AstFault
shape_value_fault n = of_object (λ ms. shape_pairs_fault (tree_named type_name ms) ms) n

-- whether the text is this one
abbrev pub is_this : List ℕ → Option (List ℕ) → Bool
is_this wanted None = false
is_this wanted (Some t) = bytes_eq t wanted

-- whether the tree is an object that applies traits
abbrev pub says_apply : Option Node → Bool
says_apply None = false
says_apply (Some n) = is_this (codes "apply") (text_in n)

abbrev pub pairs_apply : Option Members → Bool
pairs_apply None = false
pairs_apply (Some ms) = says_apply (tree_named type_name ms)

abbrev pub is_apply : Node → Bool
is_apply n = pairs_apply (pairs_in n)

-- a pair of `shapes`: its name is the id of a shape, or, where traits are applied, of a member
abbrev pub is_shape_key : List ℕ → Node → Bool
is_shape_key k n = is_id k && (not (has_member k) || is_apply n)

abbrev pub shape_fault : List ℕ → Node → Option AstFault
shape_fault k n = earlier_of (unless (is_shape_key k n) (bad_id [])) (shape_value_fault n)

-- "2.0" or "2"
abbrev pub is_version : Node → Bool
is_version n = is_this (codes "2.0") (text_in n) || is_this (codes "2") (text_in n)

-- a pair of the top object
abbrev pub top_fault : List ℕ → Node → Option AstFault
top_fault k n =
    if bytes_eq k smithy_name
    then unless (is_version n) version
    else if bytes_eq k metadata_name
    then of_object (members_fault []) n
    else if bytes_eq k shapes_name then of_object (pairs_fault shape_fault []) n else Some (field [])

-- of a whole tree
abbrev pub ast_fault : Node → Option AstFault
ast_fault n = of_object (object_fault top_fault (smithy_name ∷ [])) n

-- The keywords of JSON Schema 2020-12 by which schemas of shapes are written, each by its value and an instance: "Core", 8.2.3, 10.2
-- and 10.3, and "Validation", 6.1 to 6.5. A keyword that speaks of another type than the instance's holds. A keyword whose value isn't of
-- the form that its section asks for accepts nothing that it speaks of.
use Rattle.std.specs.Prelude.{ℕ, pos, Bool, true, false, ◌&&◌, ◌||◌, not, List, length, Option, Some, None, is_some, codes}
use Rattle.std.specs.List.{list_all}
use Rattle.std.specs.Str.{bytes_eq, chars}
use Rattle.sm_tree.specs.Node.{Node, Nodes, Members, null, bool, int, number, text, list, object, no_nodes, node}
use Rattle.sm_tree.specs.Node.{no_members}
use Rattle.sm_tree.specs.Parts.{tree_named}
use Rattle.sm_shapes.specs.Fitting.{Test}
use Rattle.sm_schema.specs.Decimals.{decimal_of, is_whole, number_le}
use Rattle.sm_schema.specs.Equal.{count_entries, count_pairs, equal_trees, equal_values}

-- an instance within an instance, and whether a schema accepts it
pub record Part : Type 0 where
  pub tree : Node
  pub accepted : Node → Bool

-- a property of an object: its name, whether a schema accepts that as a text, and its value
pub record Property : Type 0 where
  pub name : List ℕ
  pub name_accepted : Node → Bool
  pub value : Part

-- an instance with its elements where it is an array, and its properties where it is an object
pub record Instance : Type 0 where
  pub tree : Node
  pub elements : List Part
  pub properties : List Property

-- "Validation", 6.1.1, "type": the instance is of the type of this name, or of one of these. "integer" is any number without a
-- fractional part
abbrev pub is_of_type : List ℕ → Node → Bool
is_of_type name null = bytes_eq name (codes "null")
is_of_type name (bool b) = bytes_eq name (codes "boolean")
is_of_type name (int z) = bytes_eq name (codes "integer") || bytes_eq name (codes "number")
is_of_type name (number u) = (bytes_eq name (codes "integer") && is_whole (decimal_of u)) || bytes_eq name (codes "number")
is_of_type name (text u) = bytes_eq name (codes "string")
is_of_type name (list ns) = bytes_eq name (codes "array")
is_of_type name (object ms) = bytes_eq name (codes "object")
is_of_type name n = false

abbrev pub is_of_some_type : Nodes → Node → Bool
is_of_some_type no_nodes n = false
is_of_some_type (node (text name) names) n = is_of_type name n || is_of_some_type names n
is_of_some_type (node m names) n = false

abbrev pub type_holds : Node → Node → Bool
type_holds (text name) n = is_of_type name n
type_holds (list names) n = is_of_some_type names n
type_holds v n = false

-- 6.1.2, "enum": the instance is equal to one of these
abbrev pub is_among : Nodes → Node → Bool
is_among no_nodes n = false
is_among (node m ms) n = equal_values m n || is_among ms n

abbrev pub enum_holds : Node → Node → Bool
enum_holds (list ms) n = is_among ms n
enum_holds v n = false

-- 6.2.4, "minimum", and 6.2.2, "maximum": both ends are in
abbrev pub is_number : Node → Bool
is_number (int z) = true
is_number (number u) = true
is_number n = false

abbrev pub minimum_holds : Node → Node → Bool
minimum_holds v n = not (is_number n) || number_le v n

abbrev pub maximum_holds : Node → Node → Bool
maximum_holds v n = not (is_number n) || number_le n v

-- a bound of a length, or of a number of elements or properties
abbrev pub at_least : Node → ℕ → Bool
at_least v n = number_le v (int (pos n))

abbrev pub at_most : Node → ℕ → Bool
at_most v n = number_le (int (pos n)) v

-- 6.3.2, "minLength", and 6.3.1, "maxLength": the length of a text is the number of its characters (RFC 8259)
abbrev pub min_length_holds : Node → Node → Bool
min_length_holds v (text u) = at_least v (length (chars u))
min_length_holds v n = true

abbrev pub max_length_holds : Node → Node → Bool
max_length_holds v (text u) = at_most v (length (chars u))
max_length_holds v n = true

-- 6.3.3, "pattern": the pattern finds the text, anywhere in it. Which texts a pattern finds is the test of a store of patterns
abbrev pub pattern_finds : Test → Node → List ℕ → Bool
pattern_finds test (text p) u = test p u
pattern_finds test v u = false

abbrev pub pattern_holds : Test → Node → Node → Bool
pattern_holds test v (text u) = pattern_finds test v u
pattern_holds test v n = true

-- 6.4.2, "minItems", and 6.4.1, "maxItems"
abbrev pub min_items_holds : Node → Node → Bool
min_items_holds v (list ns) = at_least v (count_entries ns)
min_items_holds v n = true

abbrev pub max_items_holds : Node → Node → Bool
max_items_holds v (list ns) = at_most v (count_entries ns)
max_items_holds v n = true

-- 6.4.3, "uniqueItems": where it is true, no element is equal to another. Here numbers are compared as trees
abbrev pub none_equals : Node → Nodes → Bool
none_equals n no_nodes = true
none_equals n (node m ns) = not (equal_trees n m) && none_equals n ns

abbrev pub all_differ : Nodes → Bool
all_differ no_nodes = true
all_differ (node n ns) = none_equals n ns && all_differ ns

abbrev pub differ_if : Node → Nodes → Bool
differ_if (bool unique) ns = not unique || all_differ ns
differ_if v ns = false

abbrev pub unique_items_holds : Node → Node → Bool
unique_items_holds v (list ns) = differ_if v ns
unique_items_holds v n = true

-- 6.5.2, "minProperties", and 6.5.1, "maxProperties"
abbrev pub min_properties_holds : Node → Node → Bool
min_properties_holds v (object ms) = at_least v (count_pairs ms)
min_properties_holds v n = true

abbrev pub max_properties_holds : Node → Node → Bool
max_properties_holds v (object ms) = at_most v (count_pairs ms)
max_properties_holds v n = true

-- 6.5.3, "required": each of these is the name of a property
abbrev pub are_names : Nodes → Members → Bool
are_names no_nodes ms = true
are_names (node (text name) names) ms = is_some (tree_named name ms) && are_names names ms
are_names (node n names) ms = false

abbrev pub requires_names : Node → Members → Bool
requires_names (list names) ms = are_names names ms
requires_names v ms = false

abbrev pub required_holds : Node → Node → Bool
required_holds v (object ms) = requires_names v ms
required_holds v n = true

-- "Core", 10.3.1.2, "items": each element is accepted
abbrev pub items_hold : Node → Instance → Bool
items_hold v i = list_all (λ part. part.accepted v) i.elements

-- 10.3.2.1, "properties": a property whose name stands here is accepted by the schema under it
abbrev pub accepted_by : Option Node → Part → Bool
accepted_by None part = true
accepted_by (Some schema) part = part.accepted schema

abbrev pub schemas_in : Node → Members
schemas_in (object schemas) = schemas
schemas_in v = no_members

abbrev pub properties_hold : Node → Instance → Bool
properties_hold v i = list_all (λ p. accepted_by (tree_named p.name (schemas_in v)) p.value) i.properties

-- 10.3.2.3, "additionalProperties": a property whose name doesn't stand in "properties" beside it is accepted
abbrev pub schemas_of : Option Node → Members
schemas_of None = no_members
schemas_of (Some v) = schemas_in v

abbrev pub additional_hold : Members → Node → Instance → Bool
additional_hold beside v i =
    list_all (λ p. is_some (tree_named p.name (schemas_of (tree_named (codes "properties") beside))) || p.value.accepted v) i.properties

-- 10.3.2.4, "propertyNames": each name of a property is accepted, as a text
abbrev pub names_hold : Node → Instance → Bool
names_hold v i = list_all (λ p. p.name_accepted v) i.properties

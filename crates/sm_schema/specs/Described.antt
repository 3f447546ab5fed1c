-- Which tree is the schema of a shape of a table: what each definition says, and all of them together.
use Rattle.std.specs.Prelude.{◌≡◌, ℕ, suc, ◌-◌, ◌^◌, ℤ, pos, negsuc, int_le, Bool, true, false, ◌&&◌, not, cond, List, [], ◌∷◌}
use Rattle.std.specs.Prelude.{Option, Some, None, is_none, unwrap_or, codes}
use Rattle.sm_time.specs.declared.format.Format.{Format}
use Rattle.sm_time.specs.declared.format.Format.TheVariants.{DateTime, HttpDate, EpochSeconds}
use Rattle.sm_tree.specs.Node.{Node, Nodes, Members, bool, int, text, list, object, no_nodes, node, no_members, member}
use Rattle.sm_shapes.specs.TableData.{TableData, ConstraintData, pattern_at, required_at, default_at}
use Rattle.sm_shapes.specs.Places.{Place, root_place, member_place, shape_of, kind_of, members_of_place, constraints_of, format_of, unique_of}
use Rattle.sm_shapes.specs.Places.{sparse_of, entry_place, key_place, value_place}
use Rattle.sm_shapes.specs.declared.kinds.ShapeKind.{ShapeKind}
use Rattle.sm_shapes.specs.declared.kinds.ShapeKind.TheVariants as kinds
use Rattle.sm_codec.specs.Conventions.{json_convention}
use Rattle.sm_schema.specs.Definitions.{Listed, Listing, definition_name, reference_text, reference}

-- an object of keywords that begin with the type
abbrev pub typed : List ℕ → Members → Node
typed name more = object (member (codes "type") (text name) more)

-- a reference, or null
abbrev pub nullable : Node → Node
nullable reference = object (member (codes "oneOf") (list (node reference (node (typed (codes "null") no_members) no_nodes))) no_members)

abbrev pub nullable_if : Bool → Node → Node
nullable_if nulls reference = cond nulls (nullable reference) reference

-- a keyword that stands only where there is a bound, a pattern, or an element that must be unlike the others
abbrev pub with_bound : List ℕ → Option ℤ → Members → Members
with_bound name None more = more
with_bound name (Some z) more = member name (int z) more

abbrev pub with_pattern : TableData → Option ℕ → Members
with_pattern t None = no_members
with_pattern t (Some n) = member (codes "pattern") (text (pattern_at t n)) no_members

abbrev pub with_unique : Bool → Members
with_unique unique = cond unique (member (codes "uniqueItems") (bool true) no_members) no_members

-- the values of an enum and of an intEnum
abbrev pub text_nodes : List (List ℕ) → Nodes
text_nodes [] = no_nodes
text_nodes (u ∷ us) = node (text u) (text_nodes us)

abbrev pub number_nodes : List ℤ → Nodes
number_nodes [] = no_nodes
number_nodes (z ∷ zs) = node (int z) (number_nodes zs)

-- the keywords of a text behind those of its type and its values: its length is counted in characters
abbrev pub text_keywords : TableData → ConstraintData → Members
text_keywords t c = with_bound (codes "minLength") c.min (with_bound (codes "maxLength") c.max (with_pattern t c.pattern))

-- the least and the greatest number of a word of so many bits, one of them its sign; and the narrower bounds of it and of a range
abbrev pub least_of : ℕ → ℤ
least_of bits = negsuc (2 ^ (bits - 1) - 1)

abbrev pub greatest_of : ℕ → ℤ
greatest_of bits = pos (2 ^ (bits - 1) - 1)

abbrev pub narrow_min : ℤ → Option ℤ → ℤ
narrow_min least None = least
narrow_min least (Some z) = cond (int_le least z) z least

abbrev pub narrow_max : ℤ → Option ℤ → ℤ
narrow_max greatest None = greatest
narrow_max greatest (Some z) = cond (int_le z greatest) z greatest

abbrev pub range_between : ℤ → ℤ → ConstraintData → Members
range_between least greatest c =
    member (codes "minimum") (int (narrow_min least c.min)) (member (codes "maximum") (int (narrow_max greatest c.max)) no_members)

abbrev pub range_keywords : ℕ → ConstraintData → Members
range_keywords bits c = range_between (least_of bits) (greatest_of bits) c

abbrev pub whole_number : ℕ → ConstraintData → Node
whole_number bits c = typed (codes "integer") (range_keywords bits c)

-- timestamps of epoch-seconds are numbers, others texts; without a format they are of epoch-seconds (Smithy 2.0, "timestampFormat trait")
abbrev pub time_type : Format → List ℕ
time_type EpochSeconds = codes "number"
time_type DateTime = codes "string"
time_type HttpDate = codes "string"

abbrev pub list_definition : Listing → Place → Node
list_definition d p =
    typed (codes "array") (
    member (codes "items") (nullable_if (sparse_of d.table p) (reference d (entry_place d.table p))) (
    with_bound (codes "minItems") (constraints_of d.table p).min (
    with_bound (codes "maxItems") (constraints_of d.table p).max (
    with_unique (unique_of d.table p)))))

abbrev pub map_definition : Listing → Place → Node
map_definition d p =
    typed (codes "object") (
    member (codes "propertyNames") (reference d (key_place d.table p)) (
    member (codes "additionalProperties") (nullable_if (sparse_of d.table p) (reference d (value_place d.table p))) (
    with_bound (codes "minProperties") (constraints_of d.table p).min (
    with_bound (codes "maxProperties") (constraints_of d.table p).max no_members))))

-- a member without which an object is no value: it is required and has no default that counts
abbrev pub must_stand : TableData → ℕ → Bool
must_stand t k = required_at t k && is_none (default_at t k)

-- the name under which a member of a shape stands
abbrev pub name_of : Listing → ℕ → ℕ → List ℕ
name_of d s k = (json_convention d.json_names).name d.table s k

-- schemas of members, each under its name
abbrev pub schemas_under : Listing → ℕ → (ℕ → Node) → List ℕ → Members
schemas_under d s schema [] = no_members
schemas_under d s schema (k ∷ ks) = member (name_of d s k) (schema k) (schemas_under d s schema ks)

-- of a member of a structure: one that must stand isn't null
abbrev pub member_schema : Listing → ℕ → Node
member_schema d k = nullable_if (not (must_stand d.table k)) (reference d (member_place k))

abbrev pub required_names : Listing → ℕ → List ℕ → Nodes
required_names d s [] = no_nodes
required_names d s (k ∷ ks) = cond (must_stand d.table k) (node (text (name_of d s k)) (required_names d s ks)) (required_names d s ks)

-- it is left out where it would be empty
abbrev pub with_required : Nodes → Members
with_required no_nodes = no_members
with_required (node n ns) = member (codes "required") (list (node n ns)) no_members

abbrev pub structure_definition : Listing → Place → Node
structure_definition d p =
    typed (codes "object") (
    member (codes "properties") (object (schemas_under d (shape_of d.table p) (member_schema d) (members_of_place d.table p))) (
    with_required (required_names d (shape_of d.table p) (members_of_place d.table p))))

-- of a member of a union: each may be null, and exactly one is there that isn't
abbrev pub choice_schema : Listing → ℕ → Node
choice_schema d k = nullable (reference d (member_place k))

abbrev pub choice : Listing → ℕ → ℕ → Node
choice d s k =
    object (member (codes "properties") (object (member (name_of d s k) (reference d (member_place k)) no_members)) (
    member (codes "required") (list (node (text (name_of d s k)) no_nodes)) no_members))

abbrev pub choices : Listing → ℕ → List ℕ → Nodes
choices d s [] = no_nodes
choices d s (k ∷ ks) = node (choice d s k) (choices d s ks)

abbrev pub union_definition : Listing → Place → Node
union_definition d p =
    typed (codes "object") (
    member (codes "properties") (object (schemas_under d (shape_of d.table p) (choice_schema d) (members_of_place d.table p))) (
    member (codes "oneOf") (list (choices d (shape_of d.table p) (members_of_place d.table p))) no_members))

-- by the kind of the place; a type without values has none
abbrev pub definition_by : ShapeKind → Listing → Place → Node
definition_by kinds.Blob d p = typed (codes "string") no_members
definition_by kinds.Boolean d p = typed (codes "boolean") no_members
definition_by kinds.Text d p = typed (codes "string") (text_keywords d.table (constraints_of d.table p))
definition_by kinds.Enum d p =
    typed (codes "string") (member (codes "enum") (list (text_nodes (constraints_of d.table p).texts))
    (text_keywords d.table (constraints_of d.table p)))
definition_by kinds.Byte d p = whole_number 8 (constraints_of d.table p)
definition_by kinds.Short d p = whole_number 16 (constraints_of d.table p)
definition_by kinds.Integer d p = whole_number 32 (constraints_of d.table p)
definition_by kinds.IntEnum d p =
    typed (codes "integer") (member (codes "enum") (list (number_nodes (constraints_of d.table p).numbers))
    (range_keywords 32 (constraints_of d.table p)))
definition_by kinds.Long d p = whole_number 64 (constraints_of d.table p)
definition_by kinds.Timestamp d p = typed (time_type (unwrap_or (format_of d.table p) EpochSeconds)) no_members
definition_by kinds.List d p = list_definition d p
definition_by kinds.Map d p = map_definition d p
definition_by kinds.Structure d p = structure_definition d p
definition_by kinds.Union d p = union_definition d p
definition_by kinds.LeftOut d p = bool false

abbrev pub definition : Listing → Place → Node
definition d p = definition_by (kind_of d.table p) d p

-- the definitions of these places, numbered from this number on
abbrev pub definitions : Listing → ℕ → List Place → Members
definitions d number [] = no_members
definitions d number (p ∷ ps) = member (definition_name number) (definition d p) (definitions d (suc number) ps)

abbrev pub schema_tree : Listing → Node
schema_tree d =
    object (member (codes "$schema") (text (codes "https://json-schema.org/draft/2020-12/schema")) (
    member (codes "$ref") (text (reference_text 0)) (
    member (codes "$defs") (object (definitions d 0 d.places)) no_members)))

-- the tree is the schema of the shape with this number
pub record IsSchema (t : TableData) (json_names : Bool) (s : ℕ) (tree : Node) : Type 0 where
  pub places : List Place
  pub turns : ℕ
  pub listed : Listed t turns (root_place s ∷ []) 0 places
  pub is : tree ≡ schema_tree (record { table = t; json_names = json_names; places = places })

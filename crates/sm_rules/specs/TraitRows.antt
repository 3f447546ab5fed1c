-- The traits of the prelude, of the protocols and of the protocol tests: which values each may have, and where it may stand (Smithy 2.0,
-- "Trait index", and the page of each trait). A trait of two rows, as `range`, has the value of the row whose place takes it in.
use Rattle.std.specs.Prelude.{◌&&◌, ◌||◌, ℕ, Bool, true, false, not, List, [], ◌∷◌, ◌++◌, map, Option, Some, None, cond, codes, is_some}
use Rattle.std.specs.List.{list_any, list_all, filter}
use Rattle.std.specs.Option.{unwrap_or}
use Rattle.std.specs.Str.{bytes_eq}
use Rattle.httparse.specs.Grammar.{is_token}
use Rattle.sm_tree.specs.Node.{Node, Nodes, Members, no_nodes, node, no_members, member}
use Rattle.sm_tree.specs.Parts.{text_in, entries_in, pairs_in}
use Rattle.sm_model.specs.Graphs.{Entry, shape_entry, member_entry}
use Rattle.sm_model.specs.Kinds.{kind_name}
use Rattle.sm_model.specs.PreludeShapes.{api_id}
use Rattle.sm_model.specs.declared.kind.Kind.{Kind}
use Rattle.sm_model.specs.declared.kind.Kind.TheVariants as model
use Rattle.sm_compile.specs.Kinds.{has_length, is_text_kind, is_whole_kind}
use Rattle.sm_compile.specs.TraitNodes.{field_of, where_there, is_object, is_text, is_number, is_any_number, are_bounds, are_whole_bounds}
use Rattle.sm_compile.specs.TraitNodes.{is_timestamp_format}

-- a field of an object that is a trait's value: a text, a list of texts, a whole number of 64 bits
pub data FieldForm : Type 0 where
  text_field : FieldForm
  texts_field : FieldForm
  number_field : FieldForm

pub record TraitField : Type 0 where
  pub name : List ℕ
  pub needed : Bool
  pub form : FieldForm

-- a trait's value
pub data ValueForm : Type 0 where
  any_value : ValueForm
  any_object : ValueForm
  an_object_of : List TraitField → ValueForm
  -- `min` and `max`: whole numbers of 64 bits, or any numbers
  whole_bounds : ValueForm
  any_bounds : ValueForm
  texts_under_names : ValueForm
  any_list : ValueForm
  list_of_texts : ValueForm
  any_text : ValueForm
  filled_text : ValueForm
  header_token : ValueForm
  one_of : List (List ℕ) → ValueForm
  a_time_format : ValueForm
  whole_number : ValueForm
  text_or_number : ValueForm

-- types
abbrev pub is_kind : Kind → Kind → Bool
is_kind wanted kind = bytes_eq (kind_name wanted) (kind_name kind)

abbrev pub is_among : List Kind → Kind → Bool
is_among kinds kind = list_any (is_kind kind) kinds

-- a place of a trait: everywhere; shapes, which members aren't; members of structures; members of shapes of these types; shapes of these
-- types; members that target such shapes; the prelude's unit
pub data PlaceForm : Type 0 where
  everywhere : PlaceForm
  any_shape : PlaceForm
  structure_member : PlaceForm
  member_of : (Kind → Bool) → PlaceForm
  of_types : (Kind → Bool) → PlaceForm
  targeting : (Kind → Bool) → PlaceForm
  unit_alone : PlaceForm

-- traits of one row: their values, and their places, of which one is enough
pub record TraitRow : Type 0 where
  pub traits : List (List ℕ)
  pub value : ValueForm
  pub places : List PlaceForm

abbrev pub trait_row : List (List ℕ) → ValueForm → List PlaceForm → TraitRow
trait_row traits value places = record { traits = traits; value = value; places = places }

abbrev pub api_row : List (List ℕ) → ValueForm → List PlaceForm → TraitRow
api_row names value places = trait_row (map api_id names) value places

abbrev pub may_have : List ℕ → FieldForm → TraitField
may_have name form = record { name = name; needed = false; form = form }

abbrev pub must_have : List ℕ → FieldForm → TraitField
must_have name form = record { name = name; needed = true; form = form }

-- shapes of these types, and members that target them
abbrev pub with_members : (Kind → Bool) → List PlaceForm
with_members kinds = of_types kinds ∷ targeting kinds ∷ []

abbrev pub fraction_kinds : List Kind
fraction_kinds = model.Float ∷ model.Double ∷ model.BigInteger ∷ model.BigDecimal ∷ []

abbrev pub simple_kinds : List Kind
simple_kinds = model.Blob ∷ model.Boolean ∷ model.Text ∷ model.Byte ∷ model.Short ∷ model.Integer ∷ model.Long ∷ model.Float ∷ model.Double
    ∷ model.BigInteger ∷ model.BigDecimal ∷ model.Timestamp ∷ model.Document ∷ []

abbrev pub defaulted_kinds : List Kind
defaulted_kinds = simple_kinds ++ model.Enum ∷ model.IntEnum ∷ model.List ∷ model.Map ∷ []

-- any type but those of services, operations and resources
abbrev pub trait_kinds : List Kind
trait_kinds = defaulted_kinds ++ model.Structure ∷ model.Union ∷ []

-- annotations of a structure's members, and of structures
abbrev pub member_annotations : List (List ℕ)
member_annotations = codes "required" ∷ codes "clientOptional" ∷ codes "addedDefault" ∷ codes "idempotencyToken" ∷ codes "httpLabel"
    ∷ codes "httpPayload" ∷ codes "httpQueryParams" ∷ codes "httpResponseCode" ∷ codes "hostLabel" ∷ []

abbrev pub structure_annotations : List (List ℕ)
structure_annotations = codes "input" ∷ codes "output" ∷ codes "protocolDefinition" ∷ codes "authDefinition" ∷ codes "retryable" ∷ []

-- annotations: any object
abbrev pub annotation_rows : List TraitRow
annotation_rows =
    api_row member_annotations any_object (structure_member ∷ [])
    ∷ api_row structure_annotations any_object (of_types (is_kind model.Structure) ∷ [])
    ∷ api_row (codes "sparse" ∷ []) any_object (of_types (is_among (model.List ∷ model.Map ∷ [])) ∷ [])
    ∷ api_row (codes "uniqueItems" ∷ []) any_object (of_types (is_kind model.List) ∷ [])
    ∷ api_row (codes "private" ∷ codes "internal" ∷ codes "unstable" ∷ codes "sensitive" ∷ []) any_object (everywhere ∷ [])
    ∷ api_row (codes "readonly" ∷ codes "idempotent" ∷ codes "optionalAuth" ∷ []) any_object (of_types (is_kind model.Operation) ∷ [])
    ∷ api_row (codes "streaming" ∷ codes "requiresLength" ∷ []) any_object (of_types (is_among (model.Blob ∷ model.Union ∷ [])) ∷ [])
    ∷ api_row (codes "noReplace" ∷ []) any_object (of_types (is_kind model.Resource) ∷ [])
    ∷ api_row (codes "unitType" ∷ []) any_object (unit_alone ∷ [])
    ∷ api_row (codes "paginated" ∷ []) any_object (of_types (is_among (model.Operation ∷ model.Service ∷ [])) ∷ [])
    ∷ api_row (codes "cors" ∷ []) any_object (of_types (is_kind model.Service) ∷ [])
    ∷ []

-- `selector` and `conflicts` of the trait `trait`
abbrev pub trait_fields : List TraitField
trait_fields = may_have (codes "selector") text_field ∷ may_have (codes "conflicts") texts_field ∷ []

-- what shapes are and may have
abbrev pub rows_of_shapes : List TraitRow
rows_of_shapes =
    api_row (codes "endpoint" ∷ []) (an_object_of (must_have (codes "hostPrefix") text_field ∷ []))
    (of_types (is_kind model.Operation) ∷ [])
    ∷ api_row (codes "mixin" ∷ []) (an_object_of (may_have (codes "localTraits") texts_field ∷ [])) (any_shape ∷ [])
    ∷ api_row (codes "default" ∷ []) any_value (structure_member ∷ of_types (is_among defaulted_kinds) ∷ [])
    ∷ api_row (codes "enumValue" ∷ []) text_or_number (member_of (is_among (model.Enum ∷ model.IntEnum ∷ [])) ∷ [])
    ∷ api_row (codes "error" ∷ []) (one_of (codes "client" ∷ codes "server" ∷ [])) (of_types (is_kind model.Structure) ∷ [])
    ∷ api_row (codes "trait" ∷ []) (an_object_of trait_fields) (of_types (is_among trait_kinds) ∷ [])
    ∷ []

abbrev pub constraint_rows : List TraitRow
constraint_rows =
    api_row (codes "length" ∷ []) whole_bounds (with_members has_length)
    ∷ api_row (codes "range" ∷ []) whole_bounds (with_members is_whole_kind)
    ∷ api_row (codes "range" ∷ []) any_bounds (with_members (is_among fraction_kinds))
    ∷ api_row (codes "pattern" ∷ []) any_text (with_members is_text_kind)
    ∷ []

abbrev pub deprecated_fields : List TraitField
deprecated_fields = may_have (codes "message") text_field ∷ may_have (codes "since") text_field ∷ []

abbrev pub documentation_rows : List TraitRow
documentation_rows =
    api_row (codes "documentation" ∷ codes "since" ∷ []) any_text (everywhere ∷ [])
    ∷ api_row (codes "title" ∷ []) any_text (of_types (is_among (model.Service ∷ model.Resource ∷ [])) ∷ [])
    ∷ api_row (codes "tags" ∷ codes "suppress" ∷ []) list_of_texts (everywhere ∷ [])
    ∷ api_row (codes "auth" ∷ []) list_of_texts (of_types (is_among (model.Service ∷ model.Operation ∷ [])) ∷ [])
    ∷ api_row (codes "deprecated" ∷ []) (an_object_of deprecated_fields) (everywhere ∷ [])
    ∷ api_row (codes "recommended" ∷ []) (an_object_of (may_have (codes "reason") text_field ∷ [])) (structure_member ∷ [])
    ∷ api_row (codes "externalDocumentation" ∷ []) texts_under_names (everywhere ∷ [])
    ∷ api_row (codes "examples" ∷ []) any_list (of_types (is_kind model.Operation) ∷ [])
    ∷ []

-- `method` and `uri` must be there, `code` may be
abbrev pub http_fields : List TraitField
http_fields = must_have (codes "method") text_field ∷ must_have (codes "uri") text_field ∷ may_have (codes "code") number_field ∷ []

abbrev pub wire_rows : List TraitRow
wire_rows =
    api_row (codes "mediaType" ∷ []) any_text (with_members (is_among (model.Text ∷ model.Blob ∷ [])))
    ∷ api_row (codes "jsonName" ∷ []) any_text (member_of (is_among (model.Structure ∷ model.Union ∷ [])) ∷ [])
    ∷ api_row (codes "timestampFormat" ∷ []) a_time_format (with_members (is_among (model.Timestamp ∷ [])))
    ∷ api_row (codes "http" ∷ []) (an_object_of http_fields) (of_types (is_kind model.Operation) ∷ [])
    ∷ api_row (codes "httpError" ∷ []) whole_number (of_types (is_kind model.Structure) ∷ [])
    ∷ api_row (codes "httpHeader" ∷ []) header_token (structure_member ∷ [])
    ∷ api_row (codes "httpQuery" ∷ []) filled_text (structure_member ∷ [])
    ∷ api_row (codes "httpPrefixHeaders" ∷ []) any_text (structure_member ∷ [])
    ∷ api_row (codes "resourceIdentifier" ∷ []) any_text (structure_member ∷ [])
    ∷ api_row (codes "references" ∷ []) any_list (with_members (is_among (model.Structure ∷ model.Text ∷ [])))
    ∷ []

abbrev pub protocol_traits : List (List ℕ)
protocol_traits = codes "aws.protocols#awsJson1_0" ∷ codes "aws.protocols#awsJson1_1" ∷ codes "aws.protocols#restJson1"
    ∷ codes "smithy.protocols#rpcv2Cbor" ∷ []

-- protocols and protocol tests
abbrev pub other_rows : List TraitRow
other_rows =
    trait_row protocol_traits any_object (of_types (is_kind model.Service) ∷ [])
    ∷ trait_row (codes "smithy.test#httpRequestTests" ∷ []) any_list (of_types (is_kind model.Operation) ∷ [])
    ∷ trait_row (codes "smithy.test#httpResponseTests" ∷ []) any_list (of_types (is_among (model.Operation ∷ model.Structure ∷ [])) ∷ [])
    ∷ []

abbrev pub trait_rows : List TraitRow
trait_rows = annotation_rows ++ rows_of_shapes ++ constraint_rows ++ documentation_rows ++ wire_rows ++ other_rows

-- entries and values of which each passes
abbrev pub all_nodes : (Node → Bool) → Nodes → Bool
all_nodes test no_nodes = true
all_nodes test (node n ns) = test n && all_nodes test ns

abbrev pub all_values : (Node → Bool) → Members → Bool
all_values test no_members = true
all_values test (member k n ms) = test n && all_values test ms

abbrev pub is_list_node : Node → Bool
is_list_node n = is_some (entries_in n)

abbrev pub are_text_nodes : Node → Bool
are_text_nodes n = is_list_node n && all_nodes is_text (unwrap_or (entries_in n) no_nodes)

abbrev pub are_named_texts : Node → Bool
are_named_texts n = is_object n && all_values is_text (unwrap_or (pairs_in n) no_members)

abbrev pub has_none : {X : Type 0} → List X → Bool
has_none [] = true
has_none (x ∷ xs) = false

-- a text that passes
abbrev pub is_text_that : (List ℕ → Bool) → Node → Bool
is_text_that test n = is_text n && test (unwrap_or (text_in n) [])

abbrev pub has_field_form : FieldForm → Node → Bool
has_field_form text_field n = is_text n
has_field_form texts_field n = are_text_nodes n
has_field_form number_field n = is_number n

-- a field is there where it must be, and has its form where it is there; null is there
abbrev pub has_its_field : Node → TraitField → Bool
has_its_field n f = where_there (has_field_form f.form) (field_of f.name n) && (not f.needed || is_some (field_of f.name n))

abbrev pub has_form : ValueForm → Node → Bool
has_form any_value n = true
has_form any_object n = is_object n
has_form (an_object_of fs) n = is_object n && list_all (has_its_field n) fs
has_form whole_bounds n = are_whole_bounds n
has_form any_bounds n = are_bounds is_any_number n
has_form texts_under_names n = are_named_texts n
has_form any_list n = is_list_node n
has_form list_of_texts n = are_text_nodes n
has_form any_text n = is_text n
has_form filled_text n = is_text_that (λ t. not (has_none t)) n
has_form header_token n = is_text_that is_token n
has_form (one_of words) n = is_text_that (λ t. list_any (bytes_eq t) words) n
has_form a_time_format n = is_timestamp_format n
has_form whole_number n = is_number n
has_form text_or_number n = is_text n || is_number n

-- where a trait stands: at a shape of this type, or at a member of a shape of this type with this behind its target, where it is there
pub data Spot : Type 0 where
  at_shape : Kind → Spot
  at_member : Kind → Option Entry → Spot

-- a target that isn't there is none of a wrong type
abbrev pub targets_among : (Kind → Bool) → Option Entry → Bool
targets_among kinds None = true
targets_among kinds (Some (shape_entry s)) = kinds s.kind
targets_among kinds (Some (member_entry m)) = false

abbrev pub takes_in : Spot → PlaceForm → Bool
takes_in spot everywhere = true
takes_in (at_shape kind) any_shape = true
takes_in (at_member kind target) any_shape = false
takes_in (at_shape kind) structure_member = false
takes_in (at_member kind target) structure_member = is_kind model.Structure kind
takes_in (at_shape kind) (member_of kinds) = false
takes_in (at_member kind target) (member_of kinds) = kinds kind
takes_in (at_shape kind) (of_types kinds) = kinds kind
takes_in (at_member kind target) (of_types kinds) = false
takes_in (at_shape kind) (targeting kinds) = false
takes_in (at_member kind target) (targeting kinds) = targets_among kinds target
takes_in spot unit_alone = false

abbrev pub row_takes_in : Spot → TraitRow → Bool
row_takes_in spot r = list_any (takes_in spot) r.places

-- the rows of a trait
abbrev pub rows_of : List ℕ → List TraitRow
rows_of trait = filter (λ r. list_any (bytes_eq trait) r.traits) trait_rows

abbrev pub has_row : List ℕ → Bool
has_row trait = not (has_none (rows_of trait))

-- one of its rows takes the trait in at this spot
abbrev pub may_stand : List ℕ → Spot → Bool
may_stand trait spot = list_any (row_takes_in spot) (rows_of trait)

-- a value is as one of these rows says
abbrev pub is_as_one : List TraitRow → Node → Bool
is_as_one rows n = list_any (λ r. has_form r.value n) rows

-- the rows by which a value is judged: those that take the trait in at this spot, and all of them where none does
abbrev pub judging : List ℕ → Spot → List TraitRow
judging trait spot = cond (may_stand trait spot) (filter (row_takes_in spot) (rows_of trait)) (rows_of trait)

-- a value of a trait that reads: it is as a row of the trait says
abbrev pub that_reads : List ℕ → Option Node → Option Node
that_reads trait None = None
that_reads trait (Some n) = cond (is_as_one (rows_of trait) n) (Some n) None

-- What is known of a sink while the events of a tree are handed to it, some after others.
use Rattle.std.specs.Prelude.{◌≡◌, ◌<◌, ℕ, suc, cond, List, [], ◌∷◌, ◌++◌, Option, None, Some}
use Rattle.sm_tree.specs.Node.{Node, Nodes, Members, text, list, object, tag, member, no_members}
use Rattle.sm_tree.specs.Events.{NodeEvent, key_event}
use Rattle.sm_tree.specs.Streams.{StandsFor, Takes, BeginsStream, TakesSame, TakesEach, numbered, numbered_entries, numbered_pairs}
use Rattle.sm_tree.specs.steps.Handing.{TakesAll}
use Rattle.sm_shapes.specs.Places.{Place, member_place}
use Rattle.sm_shapes.specs.TableData.{TableData, member_count}
use Rattle.sm_shapes.specs.Values.{Val, FieldVals, no_fields, field, vals_of, entries_of, fields_of}
use Rattle.sm_shapes.specs.ValueView.{vals_view, each_entry_view, each_field_view}
use Rattle.sm_shapes.specs.declared.values.Value.{Value}
use Rattle.sm_codec.specs.Codec.{wire_name_in}
use Rattle.sm_codec.specs.Convention.{Convention, IsNested}
use Rattle.sm_codec.specs.Sorts.{sort_of}
use Rattle.sm_codec.specs.Written.{written, written_leaf, written_entries, written_pairs, written_fields}
use Rattle.sm_codec.specs.WrittenObjects.{is_written, fields_among, written_object}
use Rattle.sm_codec.specs.steps.ValueParts.{LeafWord, PartsHold}

-- these events may come next, one after the other, and are taken
abbrev pub MayComeNext : StandsFor → List NodeEvent → Type 0
MayComeNext S out = (es : List NodeEvent) × S es × BeginsStream (es ++ out)

pub record IsReady (S : StandsFor) (T : Takes) (out : List NodeEvent) : Type 0 where
  pub next : MayComeNext S out
  pub takes : TakesEach T out

-- they came: what stood for a stream that they may follow stands for both, and takes what it took
pub record Came (S : StandsFor) (T : Takes) (out : List NodeEvent) (M : StandsFor) (U : Takes) : Type 0 where
  pub stands : TakesAll S out M
  pub same : TakesSame T U

-- of these events the first came, and the rest are left
abbrev pub CameUpTo : StandsFor → Takes → List NodeEvent → StandsFor → Takes → List NodeEvent → Type 0
CameUpTo S T out M U rest = (done : List NodeEvent) × (done ++ rest ≡ out) × Came S T done M U × IsReady M U rest

-- a leaf: no list, no object, and no tag of one or of another tag
abbrev pub IsPlain : Node → Type 0
IsPlain n = IsNested n → ⊥

abbrev pub IsLeafNode : Node → Type 0
IsLeafNode (list ns) = ⊥
IsLeafNode (object ms) = ⊥
IsLeafNode (tag k n) = IsPlain n
IsLeafNode n = Unit {0}

-- the events of a list, of an object, and of a pair
abbrev pub list_stream : Nodes → List NodeEvent
list_stream ns = numbered (list ns) []

abbrev pub object_stream : Members → List NodeEvent
object_stream ms = numbered (object ms) []

abbrev pub pair_stream : List ℕ → Node → List NodeEvent
pair_stream name n = key_event name ∷ numbered n []

-- the events of what is written for a value, for a leaf, for a list of these entries, for a map, for a structure of all these fields and for
-- a union, and of a value under a name
abbrev pub value_stream : TableData → Convention → Place → Val → List NodeEvent
value_stream t l p v = numbered (written t l p v) []

abbrev pub leaf_stream : TableData → Convention → Place → Val → List NodeEvent
leaf_stream t l p v = numbered (written_leaf l (sort_of t p) v) []

abbrev pub items_stream : TableData → Convention → Place → List Value → List NodeEvent
items_stream t l p items = list_stream (written_entries t l p (vals_of (vals_view items)))

abbrev pub entries_stream : TableData → Convention → Place → List (List ℕ × Value) → List NodeEvent
entries_stream t l p entries = object_stream (written_pairs t l p (entries_of (each_entry_view entries)))

abbrev pub fields_stream : TableData → Convention → Place → List (ℕ × Value) → List NodeEvent
fields_stream t l p fields = object_stream (written_fields t l p (fields_of (each_field_view fields)))

abbrev pub union_stream : TableData → Convention → Place → ℕ → Val → List NodeEvent
union_stream t l p k v = object_stream (member (wire_name_in t l p k) (written t l (member_place k) v) no_members)

abbrev pub named_stream : TableData → Convention → Place → List ℕ → Val → List NodeEvent
named_stream t l p name v = pair_stream name (written t l p v)

-- those of the object of a pair and of the fields of some members, and of the pair alone
abbrev pub chosen_stream : TableData → Convention → Place → Option (List ℕ × List ℕ) → Option (List ℕ) → List (ℕ × Value) → List NodeEvent
chosen_stream t l p before members fields = numbered (written_object t l p before members (fields_of (each_field_view fields))) []

abbrev pub before_stream : Option (List ℕ × List ℕ) → List NodeEvent
before_stream None = []
before_stream (Some pair) = pair_stream pair.0 (text pair.1)

-- the events of these parts of a list, of a map and of a structure, and of its end
abbrev pub items_left : TableData → Convention → Place → List Value → List NodeEvent
items_left t l p items = numbered_entries (written_entries t l p (vals_of (vals_view items))) []

abbrev pub entries_left : TableData → Convention → Place → List (List ℕ × Value) → List NodeEvent
entries_left t l p entries = numbered_pairs (written_pairs t l p (entries_of (each_entry_view entries))) []

abbrev pub fields_left : TableData → Convention → Place → Option (List ℕ) → List (ℕ × Value) → List NodeEvent
fields_left t l p members fields = numbered_pairs (written_fields t l p (fields_among members (fields_of (each_field_view fields)))) []

-- the events of the pair of a field, if it is written
abbrev pub field_stream : TableData → Convention → Place → Option (List ℕ) → ℕ → Val → List NodeEvent
field_stream t l p members k v = cond (is_written members k) (pair_stream (wire_name_in t l p k) (written t l (member_place k) v)) []

-- how many pairs an object has for some fields, and with one before them
abbrev pub field_count : FieldVals → ℕ
field_count no_fields = 0
field_count (field k v fs) = suc (field_count fs)

abbrev pub object_count : Option (List ℕ × List ℕ) → FieldVals → ℕ
object_count None fs = field_count fs
object_count (Some pair) fs = suc (field_count fs)

-- what is known of one field
abbrev pub FieldHolds : TableData → LeafWord → ℕ → Val → Type 0
FieldHolds t leaf k v = (k < member_count t) × PartsHold t leaf (member_place k) v

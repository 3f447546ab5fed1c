-- What texts in the parts of a message come to at a place: by itself, as a list, and as a map (Smithy 2.0, "HTTP binding traits"). What stands
-- for a member is a list: none where it is absent, and two where it stands twice, as pairs of an object do under one name.
use Rattle.std.specs.Prelude.{Bool, true, false, cond, List, [], ◌∷◌, ℕ, Result, Ok, Err, map}
use Rattle.std.specs.List.{join_with_byte}
use Rattle.sm_bytes.specs.Ascii.{comma}
use Rattle.sm_time.specs.declared.format.Format.{Format}
use Rattle.sm_time.specs.declared.format.Format.TheVariants.{DateTime, HttpDate}
use Rattle.sm_shapes.specs.Places.{Place, entry_place, format_of, kind_of, member_place}
use Rattle.sm_shapes.specs.TableData.{TableData}
use Rattle.sm_shapes.specs.Values.{Val, blob_val}
use Rattle.sm_shapes.specs.declared.fault.FaultKind.{FaultKind}
use Rattle.sm_shapes.specs.declared.fault.FaultKind.TheVariants.{WrongType}
use Rattle.sm_shapes.specs.declared.kinds.ShapeKind.{ShapeKind}
use Rattle.sm_shapes.specs.declared.kinds.ShapeKind.TheVariants as table
use Rattle.sm_codec.specs.Codec.{Codec}
use Rattle.sm_codec.specs.Convention.{are_bytes}
use Rattle.sm_codec.specs.FaultLists.{Reading}
use Rattle.sm_codec.specs.Named.{in_byte_order, named, names_of}
use Rattle.sm_codec.specs.Readings.{Child, leaf_reading, list_reading, map_reading, one_here}
use Rattle.sm_codec.specs.Sorts.{Sort, simple, sort_with}
use Rattle.sm_codec.specs.declared.simple.Simple.{Simple}
use Rattle.sm_http.specs.FieldValues.{values_named}
use Rattle.sm_http.specs.declared.message.Field.{Field}
use Rattle.sm_parts.specs.HeaderLists.{entries_of, filled}
use Rattle.sm_parts.specs.Targets.{QueryPair}
use Rattle.sm_parts.specs.Texts.{cut_of, field_read, target_read}
use Rattle.sm_parts.specs.declared.list_entry.HeaderCut.{HeaderCut}
use Rattle.sm_parts.specs.declared.list_entry.HeaderCut.TheVariants.{EachComma}
use Rattle.sm_parts.specs.declared.list_entry.ListEntry.{ListEntry}
use Rattle.sm_parts.specs.declared.list_entry.ListEntry.TheVariants.{Text as some_text, NoEntry as no_entry}

-- how texts of simple values are read: of a target, or of a field, each with its usual format of timestamps
pub record TextForm : Type 0 where
  pub usual : Format
  pub read : Simple → List ℕ → Result Val FaultKind

abbrev pub in_target : TextForm
in_target = record { usual = DateTime; read = target_read }

abbrev pub in_field : TextForm
in_field = record { usual = HttpDate; read = field_read }

abbrev pub text_sort : TextForm → TableData → Place → Sort
text_sort f t p = sort_with f.usual (kind_of t p) (format_of t p)

-- a text at a place: no text is a value of a place of another sort
abbrev pub text_by : Sort → TextForm → Codec → Place → List ℕ → Reading
text_by (simple x) f c p u = leaf_reading c p (f.read x u)
text_by s f c p u = Err (one_here WrongType)

abbrev pub text_reading : TextForm → Codec → Place → List ℕ → Reading
text_reading f c p u = text_by (text_sort f c.table p) f c p u

abbrev pub some_child : (Place → Reading) → Child
some_child reading = record { null = false; reading = reading }

abbrev pub text_child : TextForm → Codec → List ℕ → Child
text_child f c u = some_child (λ p. text_reading f c p u)

-- an entry of a list
abbrev pub entry_child : TextForm → Codec → ListEntry → Child
entry_child f c (some_text u) = text_child f c u
entry_child f c no_entry = some_child (λ p. Err (one_here WrongType))

-- texts as one list; a list that isn't there
abbrev pub list_child : Codec → List Child → Child
list_child c children = some_child (λ p. list_reading c p children)

abbrev pub list_or_none : Codec → List Child → List Child
list_or_none c [] = []
list_or_none c (child ∷ children) = list_child c (child ∷ children) ∷ []

-- texts for a member: one list, or each by itself
abbrev pub texts_by : Bool → TextForm → Codec → List (List ℕ) → List Child
texts_by true f c us = list_or_none c (map (text_child f c) us)
texts_by false f c us = map (text_child f c) us

abbrev pub is_list : ShapeKind → Bool
is_list table.List = true
is_list kind = false

abbrev pub is_list_at : Codec → Place → Bool
is_list_at c p = is_list (kind_of c.table p)

-- a query: the values under its key
abbrev pub query_children : Codec → ℕ → List ℕ → List QueryPair → List Child
query_children c k name pairs = texts_by (is_list_at c (member_place k)) in_target c (named name pairs)

-- Fields of a name. Those that are empty are absent. For a list the rest are one together, with one comma between, which may have no entries
abbrev pub cut_by : Sort → HeaderCut
cut_by (simple x) = cut_of x
cut_by s = EachComma

abbrev pub field_cut : Codec → Place → HeaderCut
field_cut c p = cut_by (text_sort in_field c.table (entry_place c.table p))

abbrev pub field_list : Codec → ℕ → List ℕ → Child
field_list c k u = list_child c (map (entry_child in_field c) (entries_of (field_cut c (member_place k)) u))

abbrev pub fields_by : Bool → Codec → ℕ → List (List ℕ) → List Child
fields_by true c k [] = []
fields_by true c k (u ∷ us) = field_list c k (join_with_byte comma (u ∷ us)) ∷ []
fields_by false c k us = map (text_child in_field c) us

abbrev pub field_children : Codec → ℕ → List ℕ → List Field → List Child
field_children c k name fields = fields_by (is_list_at c (member_place k)) c k (filled (values_named name fields))

-- a map that has no entries isn't there
abbrev pub map_or_none : Codec → List (List ℕ × Child) → List Child
map_or_none c [] = []
map_or_none c (pair ∷ pairs) = some_child (λ p. map_reading c p (pair ∷ pairs)) ∷ []

-- Pairs as a map. To texts each pair is one, also of a key that stands twice; to lists all pairs of a key are one
abbrev pub keyed_texts : TextForm → Codec → List (List ℕ × List ℕ) → List (List ℕ × Child)
keyed_texts f c pairs = map (λ pair. (pair.0, text_child f c pair.1)) pairs

abbrev pub listed_keys : TextForm → Codec → List (List ℕ × List ℕ) → List (List ℕ × Child)
listed_keys f c pairs = map (λ key. (key, list_child c (map (text_child f c) (named key pairs)))) (in_byte_order (names_of pairs))

abbrev pub keyed_by : Bool → TextForm → Codec → List (List ℕ × List ℕ) → List (List ℕ × Child)
keyed_by true f c pairs = listed_keys f c pairs
keyed_by false f c pairs = keyed_texts f c pairs

-- a payload of bytes: those of a blob, a string or an enum. What comes are bytes, so the other case never comes
abbrev pub raw_by : ShapeKind → Codec → Place → List ℕ → Reading
raw_by table.Blob c p u = leaf_reading c p (cond (are_bytes u) (Ok (blob_val u)) (Err WrongType))
raw_by kind c p u = text_reading in_target c p u

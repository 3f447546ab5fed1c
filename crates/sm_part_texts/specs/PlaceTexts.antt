-- The texts that are written for values in the parts of a message (Smithy 2.0, "httpLabel trait", "httpQuery trait", "httpQueryParams trait",
-- "httpHeader trait", "httpPrefixHeaders trait"): one for a simple value, one for each entry of a list, and in a field one for a whole list.
use Rattle.std.specs.Prelude.{◌≡◌, ◌++◌, ℕ, List, [], ◌∷◌, Option, Some, None, IfSome, map}
use Rattle.sm_time.specs.declared.format.Format.{Format}
use Rattle.sm_time.specs.declared.format.Format.TheVariants.{DateTime, HttpDate}
use Rattle.sm_shapes.specs.Places.{Place, entry_place, format_of, kind_of}
use Rattle.sm_shapes.specs.TableData.{TableData}
use Rattle.sm_shapes.specs.Values.{EntryVals, Val, each_val, entry, list_val, no_entries}
use Rattle.sm_shapes.specs.declared.kinds.ShapeKind.TheVariants as table
use Rattle.sm_codec.specs.Sorts.{simple_in, sort_with}
use Rattle.sm_codec.specs.declared.simple.Simple.{Simple}
use Rattle.sm_http.specs.declared.message.Field.{Field}
use Rattle.sm_parts.specs.HeaderLists.{written_list}
use Rattle.sm_parts.specs.Targets.{QueryPair}
use Rattle.sm_parts.specs.Texts.{cut_of, text_written}
use Rattle.sm_parts.specs.declared.list_entry.HeaderCut.{HeaderCut}
use Rattle.sm_parts.specs.declared.list_entry.HeaderCut.TheVariants.{EachComma}

-- the formats of timestamps that have none of their own
abbrev pub in_targets : Format
in_targets = DateTime

abbrev pub in_fields : Format
in_fields = HttpDate

-- the simple type of a place, if it is one
abbrev pub simple_at : Format → TableData → Place → Option Simple
simple_at usual t p = simple_in (sort_with usual (kind_of t p) (format_of t p))

-- the text of a value at a place; at a place of another sort there is none
abbrev pub text_by : Option Simple → Val → List ℕ
text_by None v = []
text_by (Some x) v = text_written x v

abbrev pub text_at : Format → TableData → Place → Val → List ℕ
text_at usual t p v = text_by (simple_at usual t p) v

-- the entries of a value, if it is a list
abbrev pub listed : Val → Option (List Val)
listed (list_val vs) = Some (each_val vs)
listed v = None

-- a value that is a list stands at a place of lists; so do the values of a map
abbrev pub StandsAt : TableData → Place → Val → Type 0
StandsAt t p v = IfSome (listed v) (λ vs. kind_of t p ≡ table.List)

abbrev pub EachStandsAt : TableData → Place → EntryVals → Type 0
EachStandsAt t p no_entries = Unit {0}
EachStandsAt t p (entry key v es) = StandsAt t p v × EachStandsAt t p es

-- one text, or one for each entry of a list
abbrev pub texts_by : Format → TableData → Place → Val → Option (List Val) → List (List ℕ)
texts_by usual t p v None = text_at usual t p v ∷ []
texts_by usual t p v (Some vs) = map (text_at usual t (entry_place t p)) vs

abbrev pub texts_at : Format → TableData → Place → Val → List (List ℕ)
texts_at usual t p v = texts_by usual t p v (listed v)

-- the value of a field: a list is one text
abbrev pub cut_by : Option Simple → HeaderCut
cut_by None = EachComma
cut_by (Some x) = cut_of x

abbrev pub list_text : TableData → Place → List Val → List ℕ
list_text t place vs = written_list (cut_by (simple_at in_fields t place)) (map (text_at in_fields t place) vs)

abbrev pub field_by : TableData → Place → Val → Option (List Val) → List ℕ
field_by t p v None = text_at in_fields t p v
field_by t p v (Some vs) = list_text t (entry_place t p) vs

abbrev pub field_value : TableData → Place → Val → List ℕ
field_value t p v = field_by t p v (listed v)

-- pairs of a query under one key, and under the keys of a map
abbrev pub pairs_under : List ℕ → List (List ℕ) → List QueryPair
pairs_under key texts = map (λ u. (key, u)) texts

abbrev pub keyed_texts : TableData → Place → EntryVals → List QueryPair
keyed_texts t p no_entries = []
keyed_texts t p (entry key v es) = pairs_under key (texts_at in_targets t p v) ++ keyed_texts t p es

-- the fields of a map, under names that begin with a prefix
abbrev pub prefixed_fields : TableData → Place → List ℕ → EntryVals → List Field
prefixed_fields t p prefix no_entries = []
prefixed_fields t p prefix (entry key v es) =
    record { name = prefix ++ key; value = text_at in_fields t p v } ∷ prefixed_fields t p prefix es

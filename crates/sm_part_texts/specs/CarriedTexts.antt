-- Which values the parts of a message carry as texts, and the paths of those that they don't.
use Rattle.std.specs.Prelude.{◌++◌, ◌&&◌, ℕ, Bool, false, cond, true, List, [], ◌∷◌, Option, Some, None, suc}
use Rattle.std.specs.List.{list_all}
use Rattle.std.specs.Str.{bytes_eq}
use Rattle.httparse.specs.Grammar.{trim_ows}
use Rattle.sm_time.specs.declared.format.Format.{Format}
use Rattle.sm_tree.specs.declared.path.Step.{Step}
use Rattle.sm_tree.specs.declared.path.Step.TheVariants.{Index}
use Rattle.sm_shapes.specs.Places.{Place, entry_place}
use Rattle.sm_shapes.specs.TableData.{TableData}
use Rattle.sm_shapes.specs.Values.{EntryVals, Val, entry, no_entries, text_val}
use Rattle.sm_codec.specs.Written.{paths_under}
use Rattle.sm_codec.specs.declared.simple.Simple.{Simple}
use Rattle.sm_parts.specs.HeaderLists.{is_filled}
use Rattle.sm_parts.specs.Texts.{has_written_text, is_field_byte}
use Rattle.sm_part_texts.specs.PlaceTexts.{in_fields, in_targets, listed, simple_at}
use Rattle.sm_part_texts.specs.declared.carried.TextTest.{TextTest}
use Rattle.sm_part_texts.specs.declared.carried.TextTest.TheVariants.{OfLabel, OfQuery, OfEntry, OfField}

-- a value of a place has a text: each but a stamp outside its format
abbrev pub has_text_by : Option Simple → Val → Bool
has_text_by None v = false
has_text_by (Some x) v = has_written_text x v

abbrev pub has_text_at : Format → TableData → Place → Val → Bool
has_text_at usual t p v = has_text_by (simple_at usual t p) v

abbrev pub have_texts_by : Format → TableData → Place → Val → Option (List Val) → Bool
have_texts_by usual t p v None = has_text_at usual t p v
have_texts_by usual t p v (Some vs) = list_all (has_text_at usual t (entry_place t p)) vs

abbrev pub have_texts : Format → TableData → Place → Val → Bool
have_texts usual t p v = have_texts_by usual t p v (listed v)

abbrev pub keyed_have_texts : TableData → Place → EntryVals → Bool
keyed_have_texts t p no_entries = true
keyed_have_texts t p (entry key v es) = have_texts in_targets t p v && keyed_have_texts t p es

abbrev pub fields_have_texts : TableData → Place → EntryVals → Bool
fields_have_texts t p no_entries = true
fields_have_texts t p (entry key v es) = has_text_at in_fields t p v && fields_have_texts t p es

-- a text that a field has: without blanks around it, of bytes from 0x20 to 0x7E
abbrev pub is_field_text : List ℕ → Bool
is_field_text u = list_all is_field_byte u && bytes_eq (trim_ows u) u

-- What is asked of a text: no label and no field is empty, but an entry of a list may be. The texts of all other values meet it
abbrev pub passes : TextTest → List ℕ → Bool
passes OfLabel u = is_filled u
passes OfQuery u = true
passes OfEntry u = is_field_text u
passes OfField u = is_filled u && is_field_text u

abbrev pub value_passes : TextTest → Val → Bool
value_passes test (text_val u) = passes test u
value_passes test v = true

-- the format that stamps usually have there
abbrev pub usual_in : TextTest → Format
usual_in OfLabel = in_targets
usual_in OfQuery = in_targets
usual_in OfEntry = in_fields
usual_in OfField = in_fields

-- what is carried as a label, in a query, as an entry of a list in a field, and as a field
abbrev pub is_carried : TextTest → TableData → Place → Val → Bool
is_carried test t p v = has_text_at (usual_in test) t p v && value_passes test v

-- this value alone, where a test fails
abbrev pub here_unless : Bool → List (List Step)
here_unless passed = cond passed [] ([] ∷ [])

-- the entries of a list that a test fails, from the i-th on; a list that is empty isn't carried itself
abbrev pub entries_failing : (Val → Bool) → ℕ → List Val → List (List Step)
entries_failing test i [] = []
entries_failing test i (v ∷ vs) = paths_under (Index i) (here_unless (test v)) ++ entries_failing test (suc i) vs

abbrev pub list_failing : (Val → Bool) → List Val → List (List Step)
list_failing test [] = [] ∷ []
list_failing test (v ∷ vs) = entries_failing test 0 (v ∷ vs)

-- of a value by itself, and of a list
abbrev pub uncarried_by : TextTest → TextTest → TableData → Place → Val → Option (List Val) → List (List Step)
uncarried_by alone inside t p v None = here_unless (is_carried alone t p v)
uncarried_by alone inside t p v (Some vs) = list_failing (is_carried inside t (entry_place t p)) vs

abbrev pub uncarried_texts : TextTest → TextTest → TableData → Place → Val → List (List Step)
uncarried_texts alone inside t p v = uncarried_by alone inside t p v (listed v)

abbrev pub uncarried_query : TableData → Place → Val → List (List Step)
uncarried_query t p v = uncarried_texts OfQuery OfQuery t p v

abbrev pub uncarried_field : TableData → Place → Val → List (List Step)
uncarried_field t p v = uncarried_texts OfField OfEntry t p v

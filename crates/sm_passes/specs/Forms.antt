-- The forms of values that the rows of the table of traits ask for, by the names that the code has for them, as tests.
use Rattle.std.specs.Prelude.{◌&&◌, ◌||◌, ℕ, Bool, true, not, List, [], ◌∷◌, codes}
use Rattle.std.specs.List.{list_any}
use Rattle.std.specs.Str.{bytes_eq}
use Rattle.httparse.specs.Grammar.{is_token}
use Rattle.sm_tree.specs.Node.{Node}
use Rattle.sm_compile.specs.TraitNodes.{are_bounds, are_whole_bounds, field_of, is_any_number, is_number, is_object, is_text}
use Rattle.sm_compile.specs.TraitNodes.{is_timestamp_format, where_there}
use Rattle.sm_rules.specs.TraitRows as table
use Rattle.sm_rules.specs.TraitRows.{ValueForm, are_named_texts, are_text_nodes, has_none, is_list_node, is_text_that, may_have, must_have}
use Rattle.sm_http_traits.specs.Http.{is_http_value, is_there_as}
use Rattle.sm_passes.specs.declared.rows.form.RowForm.{RowForm}
use Rattle.sm_passes.specs.declared.rows.form.RowForm.TheVariants as form

-- the form as the table has it
abbrev pub form_said : RowForm → ValueForm
form_said form.AnyValue = table.any_value
form_said form.AnyObject = table.any_object
form_said form.Endpoint = table.an_object_of (must_have (codes "hostPrefix") table.text_field ∷ [])
form_said form.Mixin = table.an_object_of (may_have (codes "localTraits") table.texts_field ∷ [])
form_said form.Trait = table.an_object_of table.trait_fields
form_said form.Deprecated = table.an_object_of table.deprecated_fields
form_said form.Recommended = table.an_object_of (may_have (codes "reason") table.text_field ∷ [])
form_said form.Http = table.an_object_of table.http_fields
form_said form.WholeBounds = table.whole_bounds
form_said form.AnyBounds = table.any_bounds
form_said form.NamedTexts = table.texts_under_names
form_said form.AnyList = table.any_list
form_said form.Texts = table.list_of_texts
form_said form.AnyText = table.any_text
form_said form.FilledText = table.filled_text
form_said form.Token = table.header_token
form_said form.Side = table.one_of (codes "client" ∷ codes "server" ∷ [])
form_said form.TimeFormat = table.a_time_format
form_said form.WholeNumber = table.whole_number
form_said form.TextOrNumber = table.text_or_number

abbrev pub sides : List (List ℕ)
sides = codes "client" ∷ codes "server" ∷ []

abbrev pub is_a_side : List ℕ → Bool
is_a_side t = list_any (bytes_eq t) sides

abbrev pub token_signs : List ℕ
token_signs = codes "!#$%&'*+-.^_`|~"

-- objects whose fields have these forms
abbrev pub is_trait_value : Node → Bool
is_trait_value n =
    is_object n && (where_there is_text (field_of (codes "selector") n) && where_there are_text_nodes (field_of (codes "conflicts") n))

abbrev pub are_two_texts : List ℕ → List ℕ → Node → Bool
are_two_texts one other n = is_object n && (where_there is_text (field_of one n) && where_there is_text (field_of other n))

abbrev pub is_of_form : RowForm → Node → Bool
is_of_form form.AnyValue n = true
is_of_form form.AnyObject n = is_object n
is_of_form form.Endpoint n = is_object n && is_there_as is_text (field_of (codes "hostPrefix") n)
is_of_form form.Mixin n = is_object n && where_there are_text_nodes (field_of (codes "localTraits") n)
is_of_form form.Trait n = is_trait_value n
is_of_form form.Deprecated n = are_two_texts (codes "message") (codes "since") n
is_of_form form.Recommended n = is_object n && where_there is_text (field_of (codes "reason") n)
is_of_form form.Http n = is_http_value n
is_of_form form.WholeBounds n = are_whole_bounds n
is_of_form form.AnyBounds n = are_bounds is_any_number n
is_of_form form.NamedTexts n = are_named_texts n
is_of_form form.AnyList n = is_list_node n
is_of_form form.Texts n = are_text_nodes n
is_of_form form.AnyText n = is_text n
is_of_form form.FilledText n = is_text_that (λ t. not (has_none t)) n
is_of_form form.Token n = is_text_that is_token n
is_of_form form.Side n = is_text_that is_a_side n
is_of_form form.TimeFormat n = is_timestamp_format n
is_of_form form.WholeNumber n = is_number n
is_of_form form.TextOrNumber n = is_text n || is_number n

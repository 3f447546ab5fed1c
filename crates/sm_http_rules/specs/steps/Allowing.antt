-- Which targets bindings allow, by the enums of the code.
use Rattle.std.specs.Prelude.{Bool, true, false, Option}
use Rattle.sm_model.specs.Graphs.{Entry, GraphMaps}
use Rattle.sm_model.specs.declared.kind.Kind.{Kind}
use Rattle.sm_model.specs.declared.kind.Kind.TheVariants as model
use Rattle.sm_rules.specs.TraitRows.{is_kind}
use Rattle.sm_rules.specs.Bindings.{is_one_or_list, is_one_text, is_payload, is_string, passes}
use Rattle.sm_http_rules.specs.declared.allows.MapValues.{MapValues}
use Rattle.sm_http_rules.specs.declared.allows.MapValues.TheVariants as values
use Rattle.sm_http_rules.specs.declared.targets.Wanted.{Wanted}
use Rattle.sm_http_rules.specs.declared.targets.Wanted.TheVariants as wanted

abbrev pub test_of : Wanted → Kind → Bool
test_of wanted.Spelled = is_one_text
test_of wanted.Text = is_string
test_of wanted.Payload = is_payload
test_of wanted.Integer = is_kind model.Integer

abbrev pub map_test : GraphMaps → MapValues → Option Entry → Bool
map_test g values.TextsOrLists = is_one_or_list g is_string
map_test g values.Texts = passes is_string

-- by their names
abbrev pub is_spelled_kind : Kind → Bool
is_spelled_kind model.Text = true
is_spelled_kind model.Enum = true
is_spelled_kind model.Boolean = true
is_spelled_kind model.Byte = true
is_spelled_kind model.Short = true
is_spelled_kind model.Integer = true
is_spelled_kind model.Long = true
is_spelled_kind model.IntEnum = true
is_spelled_kind model.Timestamp = true
is_spelled_kind kind = false

abbrev pub is_payload_kind : Kind → Bool
is_payload_kind model.Blob = true
is_payload_kind model.Text = true
is_payload_kind model.Enum = true
is_payload_kind model.Structure = true
is_payload_kind model.Union = true
is_payload_kind model.List = true
is_payload_kind model.Map = true
is_payload_kind kind = false

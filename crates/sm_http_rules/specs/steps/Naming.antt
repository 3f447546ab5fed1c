-- Names of members in messages, as rows, and what is told of those that earlier members have.
use Rattle.std.specs.Prelude.{◌≡◌, ℕ, Bool, List, Option, Some}
use Rattle.std.specs.List.{filter_map}
use Rattle.std.specs.Option.{option_map}
use Rattle.std.specs.Str.{bytes_eq, str_eq_ignore_ascii_case}
use Rattle.sm_model.specs.EventView.{EventTold}
use Rattle.sm_model.specs.Graphs.{GraphMaps, ShapeEntry}
use Rattle.sm_model.specs.GraphView.{maps_of}
use Rattle.sm_model.specs.Reaching.{id_of_number}
use Rattle.sm_model.specs.declared.graph.Graph.{Graph}
use Rattle.sm_rules.specs.WireNames.{IsNamedAgain, header_name, name_in_json, query_name}
use Rattle.sm_rules.specs.RuleEvents.{rule_event}
use Rattle.sm_rules.specs.declared.rule.Rule.TheVariants.{WireNames}
use Rattle.sm_passes.specs.Folded.{folded}
use Rattle.sm_http_rules.specs.declared.naming.Naming.{Naming}
use Rattle.sm_http_rules.specs.declared.naming.Naming.TheVariants.{Header, Query, Json}

abbrev pub name_of : Naming → GraphMaps → List ℕ → List ℕ → Option (List ℕ)
name_of Header g shape id = header_name g id
name_of Query g shape id = query_name g id
name_of Json g shape id = name_in_json g shape id

-- by what names are compared
abbrev pub same_by : Naming → List ℕ → List ℕ → Bool
same_by Header a b = str_eq_ignore_ascii_case a b
same_by Query a b = bytes_eq a b
same_by Json a b = bytes_eq a b

abbrev pub key_of : Naming → List ℕ → List ℕ
key_of Header name = folded name
key_of Query name = name
key_of Json name = name

-- the row of a member that has a name
abbrev pub name_row : Naming → Graph → ℕ → ℕ → Option (List ℕ × ℕ)
name_row naming g shape k =
    option_map (λ name. (key_of naming name, k)) (name_of naming (maps_of g) (id_of_number g shape) (id_of_number g k))

abbrev pub name_rows : Naming → Graph → ℕ → List ℕ → List (List ℕ × ℕ)
name_rows naming g shape ks = filter_map (name_row naming g shape) ks

-- told of a member is its name
abbrev pub ToldName : Naming → Graph → ℕ → ℕ → ℕ → EventTold → Type 0
ToldName naming g shape j k e =
    (name : List ℕ) × (name_of naming (maps_of g) (id_of_number g shape) (id_of_number g k) ≡ Some name)
    × (e ≡ rule_event WireNames (id_of_number g k) name)

-- of the members of a shape
abbrev pub ToldAgain : Naming → GraphMaps → List ℕ → EventTold → Type 0
ToldAgain naming g shape e =
    (id detail : List ℕ) × (s : ShapeEntry) × IsNamedAgain g (name_of naming g shape) (same_by naming) shape s id detail
    × (e ≡ rule_event WireNames id detail)

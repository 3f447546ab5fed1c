-- What is told of the names of a shape's members in messages.
use Rattle.std.specs.Prelude.{◌≡◌, ◌⊎◌, ◌||◌, ◌++◌, ℕ, Bool, true, false, List, [], ◌∷◌, Option, Some, None, get_or}
use Rattle.std.specs.List.{filter_map}
use Rattle.sm_model.specs.EventView.{EventTold}
use Rattle.sm_model.specs.Graphs.{GraphMaps, ShapeEntry}
use Rattle.sm_model.specs.GraphView.{maps_of}
use Rattle.sm_model.specs.Reaching.{id_of_number}
use Rattle.sm_model.specs.declared.graph.Graph.{Graph}
use Rattle.sm_model.specs.declared.kind.Kind.{Kind}
use Rattle.sm_model.specs.declared.kind.Kind.TheVariants.{Structure, Union}
use Rattle.sm_compile.specs.Looked.{kind_under}
use Rattle.sm_rules.specs.Bindings.{BoundSide, an_input, IsBound}
use Rattle.sm_rules.specs.WireNames.{BeginsWithPrefix, HasWireNameAgain, has_prefix, header_again, header_name, header_prefix, json_again}
use Rattle.sm_rules.specs.WireNames.{query_again}
use Rattle.sm_rules.specs.RuleEvents.{rule_event}
use Rattle.sm_rules.specs.declared.rule.Rule.TheVariants.{WireNames}
use Rattle.sm_passes.specs.Folded.{folded}
use Rattle.sm_http_rules.specs.declared.naming.Naming.TheVariants.{Header, Query, Json}
use Rattle.sm_http_rules.specs.declared.sides.Sides.{Sides}
use Rattle.sm_http_rules.specs.steps.Naming.{ToldAgain}

-- prefixes of headers in small letters, where they aren't empty
abbrev pub prefix_in : Option (List ℕ) → Option (List ℕ)
prefix_in None = None
prefix_in (Some []) = None
prefix_in (Some (c ∷ cs)) = Some (folded (c ∷ cs))

abbrev pub prefix_of : GraphMaps → List ℕ → Option (List ℕ)
prefix_of g id = prefix_in (header_prefix g id)

abbrev pub prefixes_of : Graph → List ℕ → List (List ℕ)
prefixes_of g ks = filter_map (λ k. prefix_of (maps_of g) (id_of_number g k)) ks

-- a text begins with one of these
abbrev pub BeginsWith : List ℕ → List ℕ → Type 0
BeginsWith text prefix = (more : List ℕ) × (text ≡ prefix ++ more)

abbrev pub BeginsWithOne : List ℕ → List (List ℕ) → Type 0
BeginsWithOne text [] = ⊥
BeginsWithOne text (prefix ∷ prefixes) = BeginsWith text prefix ⊎ BeginsWithOne text prefixes

-- of a member whose header does
abbrev pub IsHeader : List ℕ → List (List ℕ) → List ℕ → EventTold → Type 0
IsHeader id prefixes header e = BeginsWithOne (folded header) prefixes × (e ≡ rule_event WireNames id header)

abbrev pub ToldBegun : Graph → List (List ℕ) → ℕ → EventTold → Type 0
ToldBegun g prefixes k e =
    (header : List ℕ) × (header_name (maps_of g) (id_of_number g k) ≡ Some header) × IsHeader (id_of_number g k) prefixes header e

abbrev pub ToldPrefixed : GraphMaps → List ℕ → EventTold → Type 0
ToldPrefixed g shape e =
    (id header : List ℕ) × (s : ShapeEntry) × BeginsWithPrefix g shape s id header × (e ≡ rule_event WireNames id header)

-- of members of a shape, each where it counts
abbrev pub ToldHeaders : GraphMaps → List ℕ → EventTold → Type 0
ToldHeaders g shape e = ((side : BoundSide) × IsBound g side shape) × (ToldAgain Header g shape e ⊎ ToldPrefixed g shape e)

abbrev pub ToldQueries : GraphMaps → List ℕ → EventTold → Type 0
ToldQueries g shape e = IsBound g an_input shape × ToldAgain Query g shape e

abbrev pub is_named : Option Kind → Bool
is_named (Some Structure) = true
is_named (Some Union) = true
is_named other = false

abbrev pub ToldJson : GraphMaps → List ℕ → EventTold → Type 0
ToldJson g shape e = (is_named (kind_under g shape) ≡ true) × ToldAgain Json g shape e

abbrev pub ToldNames : GraphMaps → List ℕ → EventTold → Type 0
ToldNames g shape e = (ToldHeaders g shape e ⊎ ToldQueries g shape e) ⊎ ToldJson g shape e

-- the shape whose members they are
abbrev pub home_of : (g : GraphMaps) (id detail : List ℕ) → HasWireNameAgain g id detail → List ℕ
home_of g id detail (header_again side shape s bound again) = shape
home_of g id detail (query_again shape s bound again) = shape
home_of g id detail (json_again shape s kind again) = shape
home_of g id detail (has_prefix side shape s bound begins) = shape

-- by marks
abbrev pub is_on_side : Sides → ℕ → Bool
is_on_side sides k = get_or sides.inputs.items k false || (get_or sides.outputs.items k false || get_or sides.errors.items k false)

-- Tests of the status codes that operations and errors outside of the prelude say.
use Rattle.std.specs.Prelude.{◌≡◌, ◌&&◌, ◌||◌, ℕ, ℤ, pos, Bool, not, List}
use Rattle.std.specs.Fmt.{signed_decimal}
use Rattle.sm_model.specs.EventView.{EventTold}
use Rattle.sm_model.specs.Graphs.{GraphMaps}
use Rattle.sm_rules.specs.Http.{HasWrongCode, HasWrongStatus, forbids_body, is_from_to, is_status_of}
use Rattle.sm_rules.specs.RuleEvents.{rule_event}
use Rattle.sm_rules.specs.declared.rule.Rule.TheVariants.{HttpCode}
use Rattle.sm_http_traits.specs.Errors.{whose_error}

abbrev pub is_wrong_code : Bool → ℤ → Bool
is_wrong_code bodied z = not (is_from_to (pos 200) (pos 299) z) || (forbids_body z && bodied)

abbrev pub is_wrong_status : GraphMaps → List ℕ → ℤ → Bool
is_wrong_status g id z = not (is_status_of (whose_error g id) z)

-- what is told of the code of an operation, and of the status of an error
abbrev pub TellsCode : GraphMaps → List ℕ → EventTold → Type 0
TellsCode g id e = (z : ℤ) × HasWrongCode g id z × (e ≡ rule_event HttpCode id (signed_decimal z))

abbrev pub TellsStatus : GraphMaps → List ℕ → EventTold → Type 0
TellsStatus g id e = (z : ℤ) × HasWrongStatus g id z × (e ≡ rule_event HttpCode id (signed_decimal z))

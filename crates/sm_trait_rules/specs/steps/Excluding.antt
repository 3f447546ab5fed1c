-- Traits of which one at most may stand, as tests.
use Rattle.std.specs.Prelude.{◌&&◌, ℕ, Bool, List, [], ◌∷◌}
use Rattle.std.specs.List.{list_any}
use Rattle.std.specs.Ordering.{is_lt}
use denote.Ref.{Bor}
use Rattle.sm_model.specs.EventView.{EventTold}
use Rattle.sm_model.specs.Graphs.{text_cmp, GraphMaps}
use Rattle.sm_compile.specs.TraitIds.{readonly_id, idempotent_id, input_id, output_id, error_id}
use Rattle.sm_rules.specs.RuleEvents.{rule_event}
use Rattle.sm_rules.specs.declared.rule.Rule.TheVariants.{TraitConflict}
use Rattle.sm_passes.specs.Carrying.{carries}
use Rattle.sm_passes.specs.Putting.{IsWhere}

-- two of the groups; the third is that of the bindings
abbrev pub of_methods : List (List ℕ)
of_methods = readonly_id ∷ idempotent_id ∷ []

abbrev pub of_sides : List (List ℕ)
of_sides = input_id ∷ output_id ∷ error_id ∷ []

-- another trait stands there that comes before this one
abbrev pub is_smaller : GraphMaps → List ℕ → List ℕ → List ℕ → Bool
is_smaller g id trait other = is_lt (text_cmp other trait) && carries g other id

-- this one does, and one of the group comes before it
abbrev pub is_greater : GraphMaps → List ℕ → List (List ℕ) → List ℕ → Bool
is_greater g id group trait = carries g trait id && list_any (is_smaller g id trait) group

-- so it is told
abbrev pub ToldGreater : GraphMaps → List ℕ → List (List ℕ) → Bor (List ℕ) → EventTold → Type 0
ToldGreater g id group trait e = IsWhere (is_greater g id group trait.now) (rule_event TraitConflict id trait.now) e

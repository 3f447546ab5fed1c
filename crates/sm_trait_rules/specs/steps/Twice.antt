-- Traits that two members of a shape carry, as tests.
use Rattle.std.specs.Prelude.{ℕ, Bool, false, List, [], ◌∷◌, cond}
use Rattle.std.specs.List.{list_any}
use Rattle.sm_model.specs.EventView.{EventTold}
use Rattle.sm_model.specs.Graphs.{GraphMaps}
use Rattle.sm_compile.specs.Looked.{listed_under}
use Rattle.sm_rules.specs.RuleEvents.{rule_event}
use Rattle.sm_rules.specs.declared.rule.Rule.TheVariants as rule
use Rattle.sm_passes.specs.Putting.{IsWhere}
use Rattle.sm_passes.specs.Carrying.{carries}

-- two of these do
abbrev pub carried_twice : GraphMaps → List ℕ → List (List ℕ) → Bool
carried_twice g trait [] = false
carried_twice g trait (id ∷ ids) = cond (carries g trait id) (list_any (carries g trait) ids) (carried_twice g trait ids)

-- so it is told
abbrev pub ToldTwice : GraphMaps → List ℕ → List ℕ → EventTold → Type 0
ToldTwice g id trait e = IsWhere (carried_twice g trait (listed_under g id)) (rule_event rule.TraitSingle id trait) e

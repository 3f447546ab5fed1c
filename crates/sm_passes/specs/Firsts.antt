-- The number that stands first under a key.
use Rattle.std.specs.Prelude.{◌==◌, ℕ, List, Option, Some, None, not}
use denote.Ref.{Bor}
use Rattle.std.specs.BTreeMap.{BTreeMap, get_by}
use Rattle.std.specs.Cmp.Lexicographic.{slice_cmp}
use Rattle.std.specs.Ordering.{nat_cmp}
use Rattle.std.specs.List.{Contains}
use Rattle.sm_model.specs.EventView.{EventTold}
use Rattle.sm_model.specs.Reaching.{id_of_number}
use Rattle.sm_model.specs.declared.graph.Graph.{Graph}
use Rattle.sm_rules.specs.RuleEvents.{rule_event}
use Rattle.sm_rules.specs.declared.rule.Rule.TheVariants.{IdCase}
use Rattle.sm_passes.specs.Putting.{IsWhere}

-- in the code
abbrev pub number_in : BTreeMap (Bor (List ℕ)) ℕ → List ℕ → Option ℕ
number_in map key = get_by (λ k. slice_cmp nat_cmp key k.now) map

-- told at a number is the one that stands first under its key, where it is another
abbrev pub ToldFirst : Graph → Option ℕ → ℕ → EventTold → Type 0
ToldFirst g None k e = ⊥
ToldFirst g (Some j) k e = IsWhere (not (j == k)) (rule_event IdCase (id_of_number g k) (id_of_number g j)) e

-- of each of these rows
abbrev pub ToldAmong : Graph → (List ℕ → Option ℕ) → List (List ℕ × ℕ) → EventTold → Type 0
ToldAmong g first rows e = (r : List ℕ × ℕ) × Contains rows r × ToldFirst g (first r.0) r.1 e

-- What is told of rows whose keys earlier rows have too.
use Rattle.std.specs.Prelude.{◌≡◌, ℕ, List, Option, Some, None, IsSomeAnd, map, slice_get, take}
use Rattle.std.specs.FinMap as fin
use Rattle.sm_model.specs.EventView.{EventTold}
use Rattle.sm_model.specs.Graphs.{member_id, text_cmp}
use Rattle.sm_model.specs.Reaching.{id_of_number}
use Rattle.sm_model.specs.declared.graph.Graph.{Graph}
use Rattle.sm_rules.specs.RuleEvents.{rule_event}
use Rattle.sm_rules.specs.declared.rule.Rule.TheVariants.{MemberCase}
use Rattle.sm_passes.specs.Folded.{folded}

-- of a number, by the one that stands first under its key
abbrev pub ToldAfter : (ℕ → ℕ → EventTold → Type 0) → Option ℕ → ℕ → EventTold → Type 0
ToldAfter Told None k e = ⊥
ToldAfter Told (Some j) k e = Told j k e

-- of the row at a place
abbrev pub ToldAt : (ℕ → ℕ → EventTold → Type 0) → List (List ℕ × ℕ) → ℕ → EventTold → Type 0
ToldAt Told rows i e = IsSomeAnd (slice_get rows i) (λ r. ToldAfter Told (fin.find text_cmp r.0 (take i rows)) r.1 e)

-- numbers under their ids without regard to case
abbrev pub folded_row : Graph → ℕ → List ℕ × ℕ
folded_row g n = (folded (id_of_number g n), n)

abbrev pub folded_rows : Graph → List ℕ → List (List ℕ × ℕ)
folded_rows g ns = map (folded_row g) ns

-- a member whose name an earlier one of the shape has but for case
abbrev pub ToldRepeat : Graph → ℕ → ℕ → ℕ → EventTold → Type 0
ToldRepeat g shape j k e =
    (name : List ℕ) × (id_of_number g j ≡ member_id (id_of_number g shape) name) × (e ≡ rule_event MemberCase (id_of_number g k) name)

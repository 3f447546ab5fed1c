-- Selectors without a step along a relation: what one picks is where it started, so of some numbers each is asked by itself.
use Rattle.std.specs.Prelude.{◌&&◌, ℕ, Bool, true, false, List, get_or, length}
use Rattle.sm_model.specs.Reaching.{AreMarks, IsMarked, id_of_number}
use Rattle.sm_model.specs.declared.graph.Graph.{Graph}
use Rattle.sm_select.specs.Selectors.{Step, any_shape, of_kind, has, compares, forward, back, walk, along, picked_by, picks_none}
use Rattle.sm_select.specs.Selectors.{picks_some}
use Rattle.sm_select.specs.Selectors.{Steps, no_steps, then, Alternatives, no_selectors, or_by}

-- no step moves, within `:is`, `:not` and `:test` neither
abbrev mutual
  pub stays : Step → Bool
  stays any_shape = true
  stays (of_kind named) = true
  stays (has attribute) = true
  stays (compares attribute op values fold) = true
  stays forward = false
  stays back = false
  stays walk = false
  stays (along relations) = false
  stays (picked_by selectors) = each_stays selectors
  stays (picks_none steps) = all_stay steps
  stays (picks_some selectors) = each_stays selectors

  pub all_stay : Steps → Bool
  all_stay no_steps = true
  all_stay (then step steps) = stays step && all_stay steps

  pub each_stays : Alternatives → Bool
  each_stays no_selectors = true
  each_stays (or_by steps selectors) = all_stay steps && each_stays selectors

-- the id at a place of some numbers
abbrev pub id_among : Graph → List ℕ → ℕ → List ℕ
id_among g numbers i = id_of_number g (get_or numbers i 0)

-- exactly the marked places of some numbers are kept of whose ids it holds
abbrev pub AreKeptAmong : Graph → List ℕ → List Bool → (List ℕ → Type 0) → List Bool → Type 0
AreKeptAmong g numbers starts Holds marks = AreMarks (length numbers) (λ i. IsMarked starts i × Holds (id_among g numbers i)) marks

-- where a relation leads from an id to itself
abbrev pub AreStill : Graph → List ℕ → List Bool → (List ℕ → List ℕ → Type 0) → List Bool → Type 0
AreStill g numbers starts Leads marks = AreKeptAmong g numbers starts (λ id. Leads id id) marks

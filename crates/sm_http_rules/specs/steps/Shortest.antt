-- Prefixes of which none begins with another, in order.
use Rattle.std.specs.Prelude.{◌≡◌, ℕ, List, cond, eqb, length}
use Rattle.std.specs.List.{AllAdjacentBelow, starts_with}
use Rattle.std.specs.declared.cmp.Ordering.{Ordering}
use Rattle.std.specs.declared.cmp.Ordering.TheVariants.{Less, Equal}
use Rattle.sm_model.specs.Graphs.{text_cmp}
use Rattle.sm_http_rules.specs.steps.WireNames.{BeginsWith}

-- the later one of two isn't less, and doesn't begin with the earlier one
abbrev pub IsApart : List ℕ → List ℕ → Type 0
IsApart earlier later = (text_cmp later earlier ≡ Less → ⊥) × (BeginsWith later earlier → ⊥)

abbrev pub AreApart : List (List ℕ) → Type 0
AreApart ps = AllAdjacentBelow IsApart ps (length ps)

-- where a prefix stands against the texts that begin with it
abbrev pub place_of : List ℕ → List ℕ → Ordering
place_of prefix text = cond (starts_with eqb text prefix) Equal (text_cmp prefix text)

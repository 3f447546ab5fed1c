-- How the pieces of a query are written one by one, and which pair a literal takes.
use Rattle.std.specs.Prelude.{◌≡◌, ◌<◌, ◌+◌, ◌++◌, ℕ, Bool, true, false, List, [], ◌∷◌, Option, Some, None, drop, length, take}
use Rattle.sm_uri.specs.UriPattern.{ampersand, question_mark}
use Rattle.sm_parts.specs.Targets.{QueryPair}
use Rattle.sm_routes.specs.Routes.{without_first}

-- the mark before the first piece, and before each other
abbrev pub mark : Bool → ℕ
mark true = question_mark
mark false = ampersand

-- pieces behind their marks
abbrev pub marked : Bool → List (List ℕ) → List ℕ
marked first [] = []
marked first (piece ∷ pieces) = mark first ∷ (piece ++ marked false pieces)

abbrev pub is_none_of : List (List ℕ) → Bool
is_none_of [] = true
is_none_of (piece ∷ pieces) = false

-- the place of the pair that a literal takes
abbrev pub IsPairPlace : QueryPair → List QueryPair → Option ℕ → Type 0
IsPairPlace wanted pairs None = without_first wanted pairs ≡ pairs
IsPairPlace wanted pairs (Some place) = (place < length pairs) × (without_first wanted pairs ≡ take place pairs ++ drop (place + 1) pairs)

-- What the steps of reading the words of `serve` come to.
use Rattle.std.specs.Prelude.{◌≡◌, ◌<◌, ◌≤◌, ℕ, Option, None, Some}
use Rattle.sm_serve.specs.ServeWords.{most_links}

-- the number is one of links, or it isn't
abbrev pub IsWithin : ℕ → Option ℕ → Type 0
IsWithin count None = 0 < count → count ≤ most_links → ⊥
IsWithin count (Some found) = (found ≡ count) × (0 < count) × (count ≤ most_links)

-- Places in a list of which some are left out.
use Rattle.std.specs.Prelude.{ℕ, suc, nat_lt, List, [], ◌∷◌, cond}

-- the place, in the whole list, of what has this place where those that rise are left out
abbrev pub moved_place : List ℕ → ℕ → ℕ
moved_place [] at = at
moved_place (p ∷ ps) at = cond (nat_lt at p) at (moved_place ps (suc at))

-- how many of these places stand before one that isn't among them
abbrev pub below_place : List ℕ → ℕ → ℕ
below_place [] at = 0
below_place (p ∷ ps) at = cond (nat_lt at p) 0 (suc (below_place ps at))

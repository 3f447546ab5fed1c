-- Lists as runs of one list of numbers, and how the steps of links are put into them.
use Rattle.std.specs.Prelude.{◌≡◌, ◌⊎◌, ◌↔◌, ◌<◌, ◌≤◌, ◌+◌, ◌-◌, ◌==◌, ℕ, zero, suc, Bool, true, false, List, [], ◌∷◌}
use Rattle.std.specs.Prelude.{cond, drop, get_or, length, take}
use Rattle.sm_model.specs.declared.link.Link.{Link}
use Rattle.sm_model.specs.declared.relation.Relation.{Relation}
use Rattle.sm_model.specs.declared.relation.Relation.TheVariants.{Container, Error, Identifier, Input, Member, Operation}
use Rattle.sm_model.specs.declared.relation.Relation.TheVariants.{Output, Property, Resource, Target}
use Rattle.sm_select.specs.Followed.{start_of}
use Rattle.sm_select.specs.steps.Reaching.{StepsOf}

-- one run behind the other from a place on, each told by where it ends
abbrev pub runs_from : List ℕ → ℕ → List ℕ → List (List ℕ)
runs_from numbers start [] = []
runs_from numbers start (end ∷ ends) = take (end - start) (drop start numbers) ∷ runs_from numbers end ends

-- no run ends before it starts, and none ends past the last place
abbrev pub RiseFrom : ℕ → List ℕ → ℕ → Type 0
RiseFrom start [] last = start ≤ last
RiseFrom start (end ∷ ends) last = (start ≤ end) × RiseFrom end ends last

-- whether a relation is a step
abbrev pub followed : Relation → Bool
followed Container = false
followed Member = true
followed Target = true
followed Input = true
followed Output = true
followed Error = true
followed Operation = true
followed Resource = true
followed Identifier = true
followed Property = true

-- how many steps from a number a link is: one or none
abbrev pub takes : Bool → Link → ℕ → ℕ
takes back l k = cond (followed l.relation) (cond (start_of back l == k) 1 0) 0

-- how many steps links have from a number
abbrev pub steps_at : Bool → List Link → ℕ → ℕ
steps_at back [] k = 0
steps_at back (l ∷ ls) k = takes back l k + steps_at back ls k

-- how many there are below a number
abbrev pub sums : (ℕ → ℕ) → ℕ → ℕ
sums f zero = 0
sums f (suc n) = sums f n + f n

-- a step that has its place among those of its number
abbrev pub IsPlaced : (ℕ → ℕ) → List ℕ → List ℕ → ℕ → ℕ → Type 0
IsPlaced starts numbers ends a b = (p : ℕ) × (starts a ≤ p) × (p < get_or ends a 0) × (get_or numbers p 0 ≡ b)

-- all links but the rest have their places, and the rest has room
pub record Fills (count : ℕ) (back : Bool) (all rest : List Link) (numbers ends : List ℕ) : Type 0 where
  pub whole : length ends ≡ count
  pub long : length numbers ≡ sums (steps_at back all) count
  pub begun : (k : ℕ) → k < count → sums (steps_at back all) k ≤ get_or ends k 0
  pub free : (k : ℕ) → k < count → get_or ends k 0 + steps_at back rest k ≡ sums (steps_at back all) (suc k)
  pub steps : (a b : ℕ) → (IsPlaced (sums (steps_at back all)) numbers ends a b ⊎ StepsOf back rest a b) ↔ StepsOf back all a b

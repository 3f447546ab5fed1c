-- Steps between the numbers of a graph, by any relation but that from a member to its shape, and where one or more of them lead.
use Rattle.std.specs.Prelude.{◌≡◌, ◌↔◌, ◌<◌, ℕ, Bool, true, false, List, [], ◌∷◌, get_or, length}
use Rattle.std.specs.List.{Contains}
use Rattle.sm_model.specs.Reaching.{IsMarked}
use Rattle.sm_model.specs.declared.link.Link.{Link}
use Rattle.sm_model.specs.declared.relation.Relation.TheVariants.{Container}

-- a list for each number: where a step leads to from there
abbrev pub HasStep : List (List ℕ) → ℕ → ℕ → Type 0
HasStep rows a b = Contains (get_or rows a []) b

-- both ends of a link are numbers below a bound
abbrev pub IsBelow : ℕ → Link → Type 0
IsBelow count l = (l.from < count) × (l.to < count)

abbrev pub AreBelow : ℕ → List Link → Type 0
AreBelow count links = (l : Link) → Contains links l → IsBelow count l

-- a link is a step from a to b, or with `back` from b to a: any but that from a member to its shape
abbrev pub IsStepOf : Bool → Link → ℕ → ℕ → Type 0
IsStepOf false l a b = (l.relation ≡ Container → ⊥) × (l.from ≡ a) × (l.to ≡ b)
IsStepOf true l a b = (l.relation ≡ Container → ⊥) × (l.to ≡ a) × (l.from ≡ b)

-- these lists are the steps of the links
pub record AreNeighbors (count : ℕ) (links : List Link) (back : Bool) (rows : List (List ℕ)) : Type 0 where
  pub whole : length rows ≡ count
  pub steps : (a b : ℕ) → HasStep rows a b ↔ ((l : Link) × Contains links l × IsStepOf back l a b)

-- by one step or more, over these numbers
abbrev pub StepsBy : List (List ℕ) → ℕ → List ℕ → ℕ → Type 0
StepsBy rows a [] b = HasStep rows a b
StepsBy rows a (next ∷ more) b = HasStep rows a next × StepsBy rows next more b

-- the numbers of a list stay below a bound
abbrev pub StayBelow : ℕ → List (List ℕ) → Type 0
StayBelow count rows = (a b : ℕ) → HasStep rows a b → b < count

-- one step or more lead to a number from a start
abbrev pub IsReached : List (List ℕ) → List Bool → ℕ → Type 0
IsReached rows starts b = (a : ℕ) × IsMarked starts a × ((between : List ℕ) × StepsBy rows a between b)

-- exactly these numbers are marked
abbrev pub AreReached : List (List ℕ) → List Bool → List Bool → Type 0
AreReached rows starts marks = (b : ℕ) → IsMarked marks b ↔ IsReached rows starts b

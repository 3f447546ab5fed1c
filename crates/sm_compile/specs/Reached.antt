-- What is reached from a shape by members and targets (Smithy 2.0, "Selectors", "Neighbors").
use Rattle.std.specs.Prelude.{◌≡◌, ◌⊎◌, ℕ, List, [], ◌∷◌}
use Rattle.sm_model.specs.Graphs.{GraphMaps}
use Rattle.sm_model.specs.Relations.{IsRelated}
use Rattle.sm_model.specs.declared.relation.Relation.TheVariants.{Member, Target}

-- a shape's members, and a member's target
abbrev pub LeadsTo : GraphMaps → List ℕ → List ℕ → Type 0
LeadsTo g from to = IsRelated Member g from to ⊎ IsRelated Target g from to

-- by these steps, one after the other, the last of which ends there
abbrev pub LeadsBy : GraphMaps → List ℕ → List (List ℕ) → List ℕ → Type 0
LeadsBy g from [] to = from ≡ to
LeadsBy g from (next ∷ more) to = LeadsTo g from next × LeadsBy g next more to

-- the shape itself, and all to which steps lead from it
abbrev pub IsReached : GraphMaps → List ℕ → List ℕ → Type 0
IsReached g root id = (by : List (List ℕ)) × LeadsBy g root by id

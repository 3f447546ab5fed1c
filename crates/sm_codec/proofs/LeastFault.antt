-- The first fault of a level's parts in their order, where one part has a fault now: that or the one that was first.
use Rattle.std.proofs.Common.{◌≡◌, Bool, true, false, cond, List, [], ◌∷◌, ◌++◌, refl, sym, ap}
use Rattle.std.specs.Prelude.{Some}
use Rattle.sm_codec.specs.FaultLists.{FaultAt, first_fault}
use Rattle.sm_codec.specs.steps.LeastFaults.{least_of}

-- the first of some faults, if there is one, gives way or doesn't
abbrev pub HeadGives : (FaultAt → Bool) → Bool → List FaultAt → Type 0
HeadGives gives b [] = Unit {0}
HeadGives gives b (f ∷ fs) = gives f ≡ b

module _ (gives : FaultAt → Bool) (new : FaultAt) where
  yields : (fs : List FaultAt) → HeadGives gives true fs → least_of gives new (first_fault fs) ≡ Some new
  yields [] h = refl
  yields (f ∷ fs) h = ap (λ b. cond b (Some new) (Some f)) h

  -- those of the parts before it stay, its own and those behind it give way
  pub least_of_parts : (more own fs gs : List FaultAt) → HeadGives gives false fs → HeadGives gives true (own ++ gs)
      → first_fault (fs ++ ((new ∷ more) ++ gs)) ≡ least_of gives new (first_fault (fs ++ (own ++ gs)))
  least_of_parts more own [] gs low high = sym (yields (own ++ gs) high)
  least_of_parts more own (f ∷ fs) gs low high = sym (ap (λ b. cond b (Some new) (Some f)) low)

-- Faults as data: a path and a kind, and lists of them in order.
use Rattle.std.specs.Prelude.{List, [], ◌∷◌, map, Option, Some, None, Result, Ok, Err}
use Rattle.sm_tree.specs.declared.path.Step.{Step}
use Rattle.sm_shapes.specs.Values.{Val}
use Rattle.sm_shapes.specs.declared.fault.FaultKind.{FaultKind}

abbrev pub FaultAt : Type 0
FaultAt = List Step × FaultKind

-- faults of these kinds here
abbrev pub here : List FaultKind → List FaultAt
here kinds = map (λ kind. ([], kind)) kinds

-- the faults of a part, seen from what has it
abbrev pub under : Step → List FaultAt → List FaultAt
under step fs = map (λ f. (step ∷ f.0, f.1)) fs

abbrev pub first_fault : List FaultAt → Option FaultAt
first_fault [] = None
first_fault (f ∷ fs) = Some f

-- what a tree comes to at a place: a value, or faults, and then one at least
abbrev pub Reading : Type 0
Reading = Result Val (List FaultAt)

abbrev pub faults_in : Reading → List FaultAt
faults_in (Ok v) = []
faults_in (Err fs) = fs

abbrev pub values_in : Reading → List Val
values_in (Ok v) = v ∷ []
values_in (Err fs) = []

-- the value where there is no fault
abbrev pub settled : List FaultAt → Val → Reading
settled [] v = Ok v
settled (f ∷ fs) v = Err (f ∷ fs)

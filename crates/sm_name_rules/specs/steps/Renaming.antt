-- The numbers whose names may be told at a service: twins in its closure, what it renames, and what has a name that it gives.
use Rattle.std.specs.Prelude.{◌≡◌, ◌⊎◌, ℕ, Bool, List, Option, Some, None, IfSome}
use Rattle.std.specs.List.{Contains}
use Rattle.sm_tree.specs.View.{node_of}
use Rattle.sm_tree.specs.declared.tree.Tree.{Tree}
use Rattle.sm_model.specs.GraphView.{IsShapeNumber}
use Rattle.sm_model.specs.Reaching.{id_of_number}
use Rattle.sm_model.specs.declared.graph.Graph.{Graph}
use Rattle.sm_compile.specs.TraitNodes.{text_of}
use Rattle.sm_passes.specs.Folded.{folded}
use Rattle.sm_name_rules.specs.steps.NameTwins.{IsOneNamed, IsNameTwin}

-- a marked number of a name that is given, where one is
abbrev pub IsOneGiven : Graph → List Bool → Option (List ℕ) → Option ℕ → Type 0
IsOneGiven g inside None o = o ≡ None
IsOneGiven g inside (Some name) o = IsOneNamed g inside (folded name) o

-- these numbers have what a pair of `rename` names, and one whose name it gives
abbrev pub HasRenamed : Graph → List Bool → List ℕ × Tree → List ℕ → Type 0
HasRenamed g inside pair ns =
    ((k : ℕ) → IsShapeNumber g k → id_of_number g k ≡ pair.0 → Contains ns k)
    × ((o : Option ℕ) × IsOneGiven g inside (text_of (Some (node_of pair.1))) o × IfSome o (λ k. Contains ns k))

-- all that may be told where these pairs are in `rename`
pub record HasAlike (g : Graph) (inside : List Bool) (pairs : List (List ℕ × Tree)) (ns : List ℕ) : Type 0 where
  pub within : (k : ℕ) → Contains ns k → IsShapeNumber g k
  pub twins : (k : ℕ) → IsNameTwin g inside k → Contains ns k
  pub renamed : (pair : List ℕ × Tree) → Contains pairs pair → HasRenamed g inside pair ns

-- some numbers of a graph came to these
abbrev pub IsMore : Graph → List ℕ → List ℕ → Type 0
IsMore g before now = ((k : ℕ) → Contains before k → Contains now k) × ((k : ℕ) → Contains now k → Contains before k ⊎ IsShapeNumber g k)

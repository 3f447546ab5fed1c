-- Defaults that are judged, member by member.
use Rattle.std.specs.Prelude.{◌≡◌, ℕ, List, Some}
use Rattle.sm_tree.specs.Node.{Node, null}
use Rattle.sm_tree.specs.declared.path.Step.{Step}
use Rattle.sm_model.specs.EventView.{EventTold}
use Rattle.sm_model.specs.Graphs.{GraphMaps}
use Rattle.sm_model.specs.GraphView.{IsShapeNumber, maps_of}
use Rattle.sm_model.specs.Reaching.{id_of_number}
use Rattle.sm_model.specs.declared.graph.Graph.{Graph}
use Rattle.sm_shapes.specs.FaultWords.{fault_word}
use Rattle.sm_shapes.specs.declared.fault.FaultKind.{FaultKind}
use Rattle.sm_codec.specs.FaultLists.{FaultAt, first_fault}
use Rattle.sm_compile.specs.Looked.{target_under}
use Rattle.sm_compile.specs.Sound.{trait_of}
use Rattle.sm_compile.specs.TraitIds.{default_id}
use Rattle.sm_rules.specs.RuleEvents.{IsEventAt, IsEventIn}
use Rattle.sm_rules.specs.declared.rule.Rule.TheVariants.{DefaultValue}
use Rattle.sm_rules.specs.NodeChecks.{HasNodeFaults, IsChecked}
use Rattle.sm_rules.specs.Defaults.{HasWrongDefault}

-- a default that is there and isn't null
abbrev pub IsSaidDefault : GraphMaps → List ℕ → Node → Type 0
IsSaidDefault g id n = (trait_of g id default_id ≡ Some n) × (n ≡ null → ⊥)

-- what a member targets, if nodes are checked for it
abbrev pub IsCheckedTarget : GraphMaps → List ℕ → List ℕ → Type 0
IsCheckedTarget g id target = (target_under g id ≡ Some target) × IsChecked g target

pub record IsDefault (g : GraphMaps) (id target : List ℕ) (n : Node) : Type 0 where
  pub said : IsSaidDefault g id n
  pub leads : IsCheckedTarget g id target

-- the first number has a default for the shape at the second
abbrev pub WantsTarget : Graph → ℕ → ℕ → Type 0
WantsTarget g j k = IsShapeNumber g k × ((n : Node) × IsDefault (maps_of g) (id_of_number g j) (id_of_number g k) n)

abbrev pub IsWantedTarget : Graph → ℕ → Type 0
IsWantedTarget g k = (j : ℕ) × IsShapeNumber g j × WantsTarget g j k

-- the default has faults for the target; told is the kind of the first
pub record HasFaultyDefault (g : GraphMaps) (id detail : List ℕ) : Type 0 where
  pub target : List ℕ
  pub n : Node
  pub is : IsDefault g id target n
  pub faults : List FaultAt
  pub faulty : HasNodeFaults g target n faults
  pub path : List Step
  pub kind_of_first : FaultKind
  pub first : first_fault faults ≡ Some (path, kind_of_first)
  pub detail_is : detail ≡ fault_word kind_of_first

abbrev pub ToldDefault : GraphMaps → List ℕ → EventTold → Type 0
ToldDefault g id e = IsEventAt DefaultValue (HasFaultyDefault g) id e

-- of the members of a shape
abbrev pub ToldDefaults : GraphMaps → List ℕ → EventTold → Type 0
ToldDefaults g shape e = IsEventIn DefaultValue (HasWrongDefault g) (λ id detail h. h.shape) shape e

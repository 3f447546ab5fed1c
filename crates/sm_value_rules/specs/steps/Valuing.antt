-- Values of traits that are judged by the traits' shapes, at one shape or member after the other.
use Rattle.std.specs.Prelude.{◌≡◌, ◌&&◌, ℕ, Bool, false, List, Some, get_or}
use Rattle.sm_tree.specs.Node.{Node}
use Rattle.sm_tree.specs.View.{node_of}
use Rattle.sm_tree.specs.declared.tree.Tree.{Tree}
use Rattle.sm_model.specs.EventView.{EventTold}
use Rattle.sm_model.specs.Graphs.{GraphMaps}
use Rattle.sm_model.specs.GraphView.{IsShapeNumber, maps_of}
use Rattle.sm_model.specs.Reaching.{id_of_number}
use Rattle.sm_model.specs.declared.graph.Graph.{Graph}
use Rattle.sm_codec.specs.FaultLists.{FaultAt}
use Rattle.sm_compile.specs.Sound.{trait_of}
use Rattle.sm_compile.specs.TraitIds.{trait_id}
use Rattle.sm_rules.specs.RuleEvents.{IsEventAt, rule_event}
use Rattle.sm_rules.specs.declared.rule.Rule.TheVariants.{TraitValue}
use Rattle.sm_passes.specs.Carrying.{carries}
use Rattle.sm_passes.specs.Owned.{is_own_shape}
use Rattle.sm_rules.specs.NodeChecks.{HasNodeFaults, IsChecked}
use Rattle.sm_rules.specs.TraitShapes.{HasFaultyValue, IsTraitShape}

-- a shape that is a trait, for which nodes are checked; by the marks of these
abbrev pub IsJudgedTrait : GraphMaps → List ℕ → Type 0
IsJudgedTrait g trait = IsTraitShape g trait × IsChecked g trait

abbrev pub is_judged_at : Graph → List Bool → ℕ → Bool
is_judged_at g checked k =
    is_own_shape (maps_of g) (id_of_number g k) && (carries (maps_of g) trait_id (id_of_number g k) && get_or checked k false)

-- some shape or member carries the trait at this number
abbrev pub IsCarried : Graph → ℕ → Type 0
IsCarried g k = (j : ℕ) × (n : Node) × IsShapeNumber g j × (trait_of (maps_of g) (id_of_number g j) (id_of_number g k) ≡ Some n)

abbrev pub WantsTrait : Graph → ℕ → ℕ → Type 0
WantsTrait g j k = (j ≡ k) × IsJudgedTrait (maps_of g) (id_of_number g k) × IsCarried g k

abbrev pub IsWantedTrait : Graph → ℕ → Type 0
IsWantedTrait g k = (j : ℕ) × IsShapeNumber g j × WantsTrait g j k

-- a node has faults for the shape of a trait, so it is told where it is the trait's value
abbrev pub IsFaultyFor : GraphMaps → List ℕ → Node → Type 0
IsFaultyFor g trait n = IsTraitShape g trait × ((faults : List FaultAt) × HasNodeFaults g trait n faults)

abbrev pub ToldValue : GraphMaps → List ℕ → List ℕ × Tree → EventTold → Type 0
ToldValue g id t e = IsFaultyFor g t.0 (node_of t.1) × (e ≡ rule_event TraitValue id t.0)

abbrev pub ToldValues : GraphMaps → List ℕ → EventTold → Type 0
ToldValues g id e = IsEventAt TraitValue (HasFaultyValue g) id e
